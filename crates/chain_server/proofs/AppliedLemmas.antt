-- What is applied is a prefix of the log, one entry after the other.
use Rattle.std.proofs.Common.{◌≡◌, ℕ, ◌+◌, ◌-◌, ◌<◌, Bool, true, false, cond, eqb, List, [], ◌∷◌, ◌++◌, length, take, get_or, refl, ap, sym, ◌∙◌, subst, arith}
use Rattle.std.specs.Prelude.{slice_get, None, Some}
use Rattle.std.proofs.lemmas.Bool.{eqb-true}
use Rattle.std.proofs.lemmas.List.{length-take-le, take_more}
use Rattle.std.proofs.lemmas.Option.{get_or_from_slice_get}
use Rattle.kr_order.specs.declared.history.Entry.{Entry}
use Rattle.kr_order.specs.declared.history.DoneEntry.{DoneEntry}
use Rattle.kr_order.specs.declared.history.Reply.{Reply}
use Rattle.kr_order.specs.Reply.{reply_to}
use Rattle.kr_order.specs.Done.{done_after, done_of}
use Rattle.kr_order.proofs.HistoryLemmas.{done_of-push}
use Rattle.kr_order.proofs.PrefixLemmas.{IsPrefix-append, IsPrefix-take, IsPrefix-trans, take_front}
use Rattle.cmd_log.specs.Places.{entry_at}
use Rattle.kr_order.specs.Prefix.{IsPrefix}

-- the entry at a place
entry_there : (log : List Entry) (place n : ℕ) (entry : Entry) → place ≡ n + 1 → entry_at log place ≡ Some entry → slice_get log n ≡ Some entry
entry_there log place n entry is there = by_test (eqb place 0) refl there
  where
    by_test : (none : Bool) → eqb place 0 ≡ none → cond none None (slice_get log (place - 1)) ≡ Some entry → slice_get log n ≡ Some entry
    by_test true same _ = absurd (omega (arith, eqb-true place 0 same))
    by_test false _ found = let before : place - 1 ≡ n = omega arith in subst (λ k. slice_get log k ≡ Some entry) before found

-- one more entry is applied
pub applied_next : (log history new : List Entry) (entry : Entry) (place : ℕ) → IsPrefix history log → length history < length log → place ≡ length history + 1 → entry_at log place ≡ Some entry → new ≡ history ++ entry ∷ [] → new ≡ take (length history + 1) log
applied_next log history new entry place prefix below is there grown =
    let found : slice_get log (length history) ≡ Some entry = entry_there log place (length history) entry is there in
    let same : get_or log (length history) entry ≡ entry = get_or_from_slice_get log (length history) entry entry found in
    grown ∙ ap (λ h. h ++ entry ∷ []) (sym (take_front history log prefix)) ∙ ap (λ e. take (length history) log ++ e ∷ []) (sym same) ∙ sym (take_more log (length history) entry below)

abbrev done_at : ℕ → Entry → Reply → DoneEntry
done_at place entry reply = record { place = place; entry = entry; reply = reply }

-- and done
pub applied_done : (history new : List Entry) (entry : Entry) (done : DoneEntry) → done.place ≡ length history + 1 → done.entry ≡ entry → done.reply ≡ reply_to history entry.command → new ≡ history ++ entry ∷ [] → done_of new ≡ done_of history ++ done ∷ []
applied_done history new entry done place is reply grown =
    let same : done_after history entry ≡ done = ap (λ p. done_at p entry (reply_to history entry.command)) (sym place) ∙ ap (λ e. done_at done.place e (reply_to history entry.command)) (sym is) ∙ ap (done_at done.place done.entry) (sym reply) in
    ap done_of grown ∙ done_of-push history entry ∙ ap (λ d. done_of history ++ d ∷ []) same

-- the prefix of one more entry
pub IsPrefix-next : (log history new : List Entry) → length history < length log → new ≡ take (length history + 1) log → IsPrefix new log
IsPrefix-next log history new below is =
    subst (λ (h : List Entry). IsPrefix h log) (sym is) (IsPrefix-take (length history + 1) log)

pub length-next : (log history new : List Entry) → length history < length log → new ≡ take (length history + 1) log → length new ≡ length history + 1
length-next log history new below is = ap length is ∙ length-take-le (length history + 1) log (omega arith)
