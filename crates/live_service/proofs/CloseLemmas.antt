-- The passes of a service, taken up one after the other from the end.
use Rattle.std.proofs.Common.{◌≡◌, ◌+◌, List, [], ◌∷◌, ◌++◌, length, Option, Some, IfSome, sym, ap, ◌∙◌, subst}
use Rattle.std.specs.Prelude.{All}
use Rattle.std.specs.Option.{option_to_list}
use Rattle.std.proofs.lemmas.List.{length_push}
use Rattle.std.proofs.lemmas.List.Elements.{All-push, All-pop}
use Rattle.std.proofs.lemmas.List.Sums.{sum_by_push}
use Rattle.kr_order.specs.declared.history.Entry.{Entry}
use Rattle.kr_order.specs.Prefix.{IsPrefix}
use Rattle.logbook.specs.Pages.{Book}
use Rattle.replica_lock.specs.Views.{TurnView, SeatView, IsIdle}
use Rattle.order_board.specs.Views.{ReaderView}
use Rattle.live_service.specs.declared.name.CopiesName.{CopiesName}
use Rattle.live_service.specs.Views.{ServiceId, PassView, named}
use Rattle.live_service.specs.Own.{HasAtLeast}
use Rattle.live_service.specs.Commands.{IsSeatOf}
use Rattle.live_service.specs.Close.{IsOf, IsKept, JoinsLast, made_by_all}
use Rattle.live_service.proofs.KnownLemmas.{named-injective}
use Rattle.live_service.proofs.OwnLemmas.{at_least_longer}

-- the last pass was taken off
pub record IsOff (id : ServiceId) (xs ys : List PassView) (x : PassView) : Type 0 where
  pub is : xs ≡ ys ++ x ∷ []
  pub others : All (IsOf id) ys
  pub own : x.service ≡ id

pub last_off : (id : ServiceId) (xs ys : List PassView) (r : Option PassView) (x : PassView) → All (IsOf id) xs
    → xs ≡ ys ++ option_to_list r → r ≡ Some x → IsOff id xs ys x
last_off id xs ys r x all is found =
    let both = All-pop (IsOf id) xs ys r is all in
    record {
      is = is ∙ ap (λ o. ys ++ option_to_list o) found;
      others = both.0;
      own = subst (λ o. IfSome o (IsOf id)) found both.1;
    }

-- the last pass was taken off, and its seat joined into another
pub joins_last : (turn : TurnView CopiesName) (seat seat' other : SeatView CopiesName) (xs ys : List PassView) (r : Option PassView)
    (x : PassView) (reader : ReaderView) → IsIdle turn.table seat → All (IsOf (record { table = turn.table; copies = turn.name })) xs
    → xs ≡ ys ++ option_to_list r → r ≡ Some x → IsSeatOf x other → reader.list ≡ x.known → named reader.copies ≡ x.service.copies
    → HasAtLeast x.client x.made x.known
    → seat' ≡ record seat
    { parts = seat.parts + other.parts; gives = seat.gives + other.gives; empties = seat.empties + other.empties; seen = seat'.seen }
    → JoinsLast turn seat seat' xs ys reader
joins_last turn seat seat' other xs ys r x reader idle all is found seated known copies commands joined =
    let id : ServiceId = record { table = turn.table; copies = turn.name } in
    let off = last_off id xs ys r x all is found in
    record {
      pass = x;
      last = off.is;
      fewer = ap length off.is ∙ length_push ys x;
      each = off.others;
      idle = record { turn = ap (λ s. s.table) joined ∙ idle.turn; holds = ap (λ s. s.holds) joined ∙ idle.holds };
      parts = ap (λ s. s.parts) joined ∙ ap (λ n. seat.parts + n) seated.one;
      gives = ap (λ s. s.gives) joined ∙ ap (λ n. seat.gives + n) seated.gives;
      known = known;
      copies = copies ∙ ap (λ i. i.copies) off.own;
      commands = commands;
    }

-- how many commands they were answered
pub made_more : (xs ys : List PassView) (x : PassView) → xs ≡ ys ++ x ∷ [] → made_by_all xs ≡ made_by_all ys + x.made
made_more xs ys x is = ap made_by_all is ∙ sum_by_push (λ (pass : PassView). pass.made) ys x

-- copies of one name are the same
pub same_copies : (one other : Book) (name : CopiesName) → named one ≡ name → named other ≡ name → one ≡ other
same_copies one other name is is' = named-injective one other (is ∙ sym is')

-- the history goes on from what all passes were told of, where it does from those and that
pub kept_push : (history : List Entry) (xs ys : List PassView) (x : PassView) → xs ≡ ys ++ x ∷ [] → All (IsKept history) ys
    → IsPrefix x.known history → HasAtLeast x.client x.made x.known → All (IsKept history) xs
kept_push history xs ys x is others known own =
    let last : IsKept history x = record { known = known; own = at_least_longer x.client x.made x.known history known own } in
    subst (All (IsKept history)) (sym is) (All-push (IsKept history) ys x others last)
