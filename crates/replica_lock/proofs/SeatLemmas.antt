-- What a seat of the turn says of the table's seat in it.
use Rattle.std.proofs.Common.{◌≡◌, ℕ, ◌+◌, ◌<◌, true, false, List, [], ◌∷◌, ◌++◌, All, option_to_list, Option, None, Some, IsSomeAnd, option_map, IfSome, ⊎_elim, refl, subst, ap, ap₂, sym, ◌∙◌, arith}
use Rattle.std.proofs.lemmas.List.Elements.{All-pop, All-push}
use Rattle.std.proofs.lemmas.List.Sums.{sum_by_push}
use Rattle.atomic_table.specs.Seated.{TableId}
use Rattle.replica_lock.specs.declared.standing.Hold.{Hold}
use Rattle.replica_lock.specs.declared.standing.Standing.{Standing}
use Rattle.replica_lock.specs.Rule.{TableSeat, ahead, standing_for}
use Rattle.replica_lock.specs.Steps.{raised}
use Rattle.replica_lock.specs.Views.{TurnView, SeatView, seat_view, fresh_seat, count_held, HoldsNothing, HoldsTurn, IsSeated, IsIdle, parts_of_all, gives_of_all}

-- the value of which a fact is said
pub IsSomeAnd-value : {A : Type 0} (o : Option A) (P : A → Type 0) → IsSomeAnd o P → (a : A) × (o ≡ Some a) × P a
IsSomeAnd-value None P none_there = absurd none_there
IsSomeAnd-value (Some a) P fact = (a, refl, fact)

-- a seat and a turn are of one table where their views are
pub one_table : {N : Type 0} (v w : SeatView N) (t u : TurnView N) → v ≡ w → t ≡ u → w.table ≡ u.table
    → v.table ≡ t.table
one_table v w t u seat turn same = ap (λ x. x.table) seat ∙ (same ∙ sym (ap (λ x. x.table) turn))

-- what holds of a list of seats holds of its last and of the others, which together have as many parts and gives
pub record Popped {N : Type 0} (table : TableId) (xs ys : List (SeatView N)) (x : SeatView N) : Type 0 where
  pub others : All (IsIdle table) ys
  pub last : IsIdle table x
  pub parts : parts_of_all xs ≡ parts_of_all ys + x.parts
  pub gives : gives_of_all xs ≡ gives_of_all ys + x.gives

pub popped : {N : Type 0} (table : TableId) (xs ys : List (SeatView N)) (r : Option (SeatView N)) (x : SeatView N)
    → xs ≡ ys ++ option_to_list r → r ≡ Some x → All (IsIdle table) xs → Popped table xs ys x
popped {N} table xs ys r x is found idle =
    let one : xs ≡ ys ++ x ∷ [] = is ∙ ap (λ o. ys ++ option_to_list o) found in
    let both = All-pop (IsIdle table) xs ys r is idle in
    record {
      others = both.0;
      last = subst (λ o. IfSome o (IsIdle table)) found both.1;
      parts = ap parts_of_all one ∙ sum_by_push (λ (seat : SeatView N). seat.parts) ys x;
      gives = ap gives_of_all one ∙ sum_by_push (λ (seat : SeatView N). seat.gives) ys x;
    }

module _ {N : Type 0} where
  -- the view of a seat that has done nothing yet
  pub fresh_view : (table turn : TableId) (name : N) (v : Standing N) → table ≡ turn → v ≡ standing_for name 1
      → seat_view table v ≡ fresh_seat turn name
  fresh_view table turn name v same is = ap₂ seat_view same is

  -- one such seat more
  pub fresh_push : (turn : TableId) (name : N) (xs ys : List (SeatView N)) (x : SeatView N) → ys ≡ xs ++ x ∷ []
      → All (λ seat. seat ≡ fresh_seat turn name) xs → x ≡ fresh_seat turn name
      → All (λ seat. seat ≡ fresh_seat turn name) ys
  fresh_push turn name xs ys x is each new =
      let IsFresh : SeatView N → Type 0 = λ seat. seat ≡ fresh_seat turn name in
      subst (All IsFresh) (sym is) (All-push IsFresh xs x each new)

module _ {T N : Type 0} where
  -- a seat that does not hold the turn
  pub idle_seat : (me : TableSeat T N) (given taken : ℕ) → IsSeated me given taken → count_held me.0 ≡ None → HoldsNothing me
  idle_seat me given taken is idle = ⊎_elim (λ (free : HoldsNothing me). free) held is.hold
    where
      held : HoldsTurn me taken → HoldsNothing me
      held h = let counts : count_held me.0 ≡ Some taken = ap (option_map (λ (k : Hold). k.count)) h.0 in absurd (cc)

  -- a seat that holds the turn
  pub holding_seat : (me : TableSeat T N) (given taken count : ℕ) → IsSeated me given taken → count_held me.0 ≡ Some count
      → (taken ≡ count) × HoldsTurn me count
  holding_seat me given taken count is holds = ⊎_elim free held is.hold
    where
      free : HoldsNothing me → (taken ≡ count) × HoldsTurn me count
      free f = let counts : count_held me.0 ≡ None = ap (option_map (λ (k : Hold). k.count)) f.0 in absurd (cc)

      held : HoldsTurn me taken → (taken ≡ count) × HoldsTurn me count
      held h =
          let counts : count_held me.0 ≡ Some taken = ap (option_map (λ (k : Hold). k.count)) h.0 in
          let same : taken ≡ count = cc in
          (same, subst (HoldsTurn me) same h)

  -- a seat of the table that can give its turn back with a value of so many entries: it has the empty slot, and the
  -- history word was raised where it had to be
  pub record IsReady (name : N) (entries : ℕ) (me : TableSeat T N) : Type 0 where
    pub some_part : 0 < me.0.parts
    pub named : me.0.name ≡ name
    pub hold : Hold
    pub holds : me.0.hold ≡ Some hold
    pub counted : entries ≡ hold.count + ahead hold.is_raised
    pub empty : me.1 ≡ (0, None) ∷ []

  -- it is ready once the history word was raised
  pub IsReady-raised : (count entries found : ℕ) (me after : TableSeat T N) → 0 < me.0.parts → HoldsTurn me count
      → entries ≡ count + 1 → raised me found after → IsReady me.0.name entries after
  IsReady-raised count entries found me after some_part held more told =
      let same : found ≡ count = subst (λ o. IfSome o (λ (h : Hold). found ≡ h.count)) held.0 told.1 in
      subst (IsReady me.0.name entries) (sym told.0) record {
        some_part = some_part;
        named = refl;
        hold = record { count = found; is_raised = true };
        holds = refl;
        counted = omega arith;
        empty = held.2;
      }

  -- or where it need not be
  pub IsReady-same : (count entries : ℕ) (me : TableSeat T N) → 0 < me.0.parts → HoldsTurn me count → entries ≡ count
      → IsReady me.0.name entries me
  IsReady-same count entries me some_part held same = record {
    some_part = some_part;
    named = refl;
    hold = record { count = count; is_raised = false };
    holds = held.0;
    counted = omega arith;
    empty = held.2;
  }
