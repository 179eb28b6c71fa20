-- The six kinds of step, each with what it asks of the seat that makes it. Whatever the table is when the step comes, it
-- keeps the rule and tells the seat what Steps.antt says.
use Rattle.std.specs.Prelude.{◌≡◌, ◌≢◌, ◌<◌, ◌+◌, ◌%◌, ◌^◌, ℕ, false, [], ◌∷◌, None, Some, slice_index}
use mathlib.Core.Option.{some}
use lib.ListN.{get_elem?}
use Rattle.atomic_table.specs.Table.{Allows, Splits, Joins}
use Rattle.replica_lock.specs.declared.seat.TheConstants.{MOST_GIVES}
use Rattle.replica_lock.specs.declared.standing.About.{About}
use Rattle.replica_lock.specs.declared.standing.Hold.{Hold}
use Rattle.replica_lock.specs.declared.standing.Standing.{Standing}
use Rattle.replica_lock.specs.Rule.{TurnState, TableSeat, ahead, IsTurn}
use Rattle.replica_lock.specs.Steps.{remaining, split_off, joined, spent, took, raised, gave, looked}

module _ {T N : Type 0} (count_of : T → ℕ) (name_of : T → N) (about : About T) where
  -- take: a seat that does not hold the turn exchanges the turn word with 1
  abbrev pub TakingKeepsTheRule : Type 0
  TakingKeepsTheRule =
      (slots id : ℕ) (me : TableSeat T N) → 0 < me.0.parts → me.0.hold ≡ None → me.1 ≡ []
      → Allows (IsTurn count_of name_of about) slots id me 1 (λ _. 1) (took count_of name_of me)

  -- count: the holder raises the history word by one, once, and its gives are not the most that a seat may have
  abbrev pub CountingKeepsTheRule : Type 0
  CountingKeepsTheRule =
      (slots id count : ℕ) (me : TableSeat T N) → 0 < me.0.parts → me.0.gives < MOST_GIVES
      → me.0.hold ≡ Some (record { count = count; is_raised = false })
      → Allows (IsTurn count_of name_of about) slots id me 0 (λ n. (n + 1) % 2 ^ 64) (raised me)

  -- give: the holder, whose value is back in the slot, clears the turn word. The value has the turn's name, and as many
  -- entries as the history
  abbrev pub GivingKeepsTheRule : Type 0
  GivingKeepsTheRule =
      (slots id : ℕ) (h : Hold) (value : T) (me : TableSeat T N) → 0 < me.0.parts → me.0.hold ≡ Some h
      → me.1 ≡ (0, Some value) ∷ [] → name_of value ≡ me.0.name → count_of value ≡ h.count + ahead h.is_raised
      → Allows (IsTurn count_of name_of about) slots id me 1 (λ _. 0) (gave me)

  -- load: a seat loads the history word
  abbrev pub LookingKeepsTheRule : Type 0
  LookingKeepsTheRule =
      (slots id : ℕ) (me : TableSeat T N) → Allows (IsTurn count_of name_of about) slots id me 0 (λ n. n) (looked me)

  -- split: a seat that stands for one is split off a seat that stands for more. Neither has given, or holds the turn
  abbrev pub SplittingKeepsTheRule : Type 0
  SplittingKeepsTheRule =
      (id : ℕ) (v : Standing N) → v.hold ≡ None → v.gives ≡ 0 → 1 < v.parts
      → Splits (IsTurn count_of name_of about) id v (remaining v) (split_off v)

  -- join: a seat is joined into another. Neither holds the turn
  abbrev pub JoiningKeepsTheRule : Type 0
  JoiningKeepsTheRule =
      (id other : ℕ) (v w : Standing N) (nowhere : N) → v.hold ≡ None → w.hold ≡ None → 0 < v.parts
      → Joins (IsTurn count_of name_of about) id v other w (joined v w) (spent nowhere)

  -- whoever holds the turn is the one that does
  abbrev pub OneSeatHoldsTheTurn : Type 0
  OneSeatHoldsTheTurn =
      (s : TurnState T N) → IsTurn count_of name_of about s
      → (one other : ℕ) (v w : Standing N) → get_elem? s.views one ≡ some v → get_elem? s.views other ≡ some w
      → v.hold ≢ None → w.hold ≢ None → one ≡ other

  -- the history word is below 2 ^ 58
  abbrev pub TheHistoryIsShort : Type 0
  TheHistoryIsShort = (s : TurnState T N) → IsTurn count_of name_of about s → slice_index s.words 0 < 2 ^ 58
