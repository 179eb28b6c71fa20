-- Beginnings of the history that readers know.
use Rattle.std.proofs.Common.{◌≡◌, ◌⊎◌, inl, inr, ℕ, ◌+◌, ◌≤◌, List, [], ◌∷◌, ◌++◌, length, refl, sym, ap, ◌∙◌, arith}
use Rattle.std.proofs.lemmas.List.{append-nil, length-append, length_push, nil_from_length}
use Rattle.kr_order.specs.Prefix.{IsPrefix}
use Rattle.kr_order.proofs.HistoryLemmas.{done_of-push}
use Rattle.kr_order.specs.Done.{done_of}
use Rattle.kr_order.specs.Reply.{reply_to}
use Rattle.kr_order.specs.declared.history.Entry.{Entry}
use Rattle.kr_order.specs.declared.history.DoneEntry.{DoneEntry}
use Rattle.kr_order.specs.declared.history.Reply.{Reply}
use Rattle.kr_order.specs.declared.history.Placed.{Placed}
use Rattle.live_service.specs.Commands.{placed_after}
use Rattle.logbook.specs.Pages.{Book}
use Rattle.live_service.specs.declared.name.CopiesName.{CopiesName}
use Rattle.live_service.specs.Views.{named}

-- a list that another of no more items begins with is that other
pub whole_front : {X : Type 0} (xs ys : List X) → IsPrefix xs ys → length ys ≤ length xs → ys ≡ xs
whole_front xs ys front short =
    let none : front.more ≡ [] = nil_from_length front.more (omega (arith, ap length front.is, length-append xs front.more, short)) in
    front.is ∙ ap (λ m. xs ++ m) none ∙ append-nil xs

-- who knows one of two lists, and both begin it, knows the longer
pub knows_longer : {X : Type 0} (old note new : List X) → (new ≡ old) ⊎ (new ≡ note) → IsPrefix note new → length old ≤ length note
    → new ≡ note
knows_longer old note new (inl is) begins longer = whole_front note new begins (omega (arith, ap length is, longer))
knows_longer old note new (inr is) begins longer = is

-- copies are known by their name
pub named-injective : (one other : Book) → named one ≡ named other → one ≡ other
named-injective one other same =
    let book : CopiesName → Book = λ name. record { number = name.number; log_name = name.log_name; cells_name = name.cells_name } in
    ap book same

-- every list begins with nothing
pub nothing_begins : {X : Type 0} (xs : List X) → IsPrefix [] xs
nothing_begins xs = record { more = xs; is = refl }

-- the journal of one entry more
pub journal_grows : (journal : List DoneEntry) (history new : List Entry) (entry : Entry) (place : ℕ) (reply : Reply)
    → journal ≡ done_of history → new ≡ history ++ entry ∷ [] → place ≡ length new → reply ≡ reply_to history entry.command
    → (let done : DoneEntry = record { place = place; entry = entry; reply = reply } in journal ++ done ∷ [] ≡ done_of new)
journal_grows journal history new entry place reply is grown at replied =
    let f : ℕ → Reply → DoneEntry = λ p r. record { place = p; entry = entry; reply = r } in
    let number : place ≡ length history + 1 = omega (arith, at, ap length grown, length_push history entry) in
    ap (λ j. j ++ f place reply ∷ []) is ∙ ap (λ p. done_of history ++ f p reply ∷ []) number
    ∙ ap (λ r. done_of history ++ f (length history + 1) r ∷ []) replied ∙ sym (done_of-push history entry) ∙ ap done_of (sym grown)

-- what the entry is told
pub placed_so : (history new : List Entry) (entry : Entry) (place : ℕ) (reply twin : Reply) → new ≡ history ++ entry ∷ []
    → place ≡ length new → twin ≡ reply → reply ≡ reply_to history entry.command
    → (let placed : Placed = record { place = place; reply = twin } in placed ≡ placed_after history entry)
placed_so history new entry place reply twin grown at same replied =
    let f : ℕ → Reply → Placed = λ p r. record { place = p; reply = r } in
    ap (λ p. f p twin) (at ∙ ap length grown ∙ length_push history entry) ∙ ap (λ r. f (length history + 1) r) (same ∙ replied)
