-- What contracts see of a turn and of its seats.
use Rattle.std.specs.Prelude.{◌≡◌, ◌<◌, ◌+◌, ◌⊎◌, ℕ, false, List, [], ◌∷◌, Option, None, Some, option_map, sum_by}
use Rattle.atomic_table.specs.Seated.{TableId}
use Rattle.replica_lock.specs.declared.seat.TheConstants.{MOST_GIVES}
use Rattle.replica_lock.specs.declared.standing.Standing.{Standing}
use Rattle.replica_lock.specs.Rule.{TableSeat}

-- which turn it is, its name, and how many seats it was made with
pub record TurnView (N : Type 0) : Type 0 where
  pub table : TableId
  pub name : N
  pub seats : ℕ

-- a seat: which turn it belongs to, and the turn's name; how many of the turn's seats it stands for; how many entries
-- it gave; how often it found the turn taken; the count of the history that it has seen; and where it holds the turn,
-- how many entries the value had when it was taken
pub record SeatView (N : Type 0) : Type 0 where
  pub table : TableId
  pub name : N
  pub parts : ℕ
  pub gives : ℕ
  pub empties : ℕ
  pub seen : ℕ
  pub holds : Option ℕ

-- the seats of a turn that are still to be taken, and how many they are
pub record SeatsView (N : Type 0) : Type 0 where
  pub table : TableId
  pub name : N
  pub left : ℕ

-- a value that was taken with so many entries may be given back with these, by a seat that gave so many before
abbrev pub IsGivable : ℕ → ℕ → ℕ → Type 0
IsGivable count gives entries = (entries ≡ count) ⊎ ((entries ≡ count + 1) × (gives < MOST_GIVES))

module _ {N : Type 0} where
  -- how many entries the value had that the seat holds, where it holds the turn
  abbrev pub count_held : Standing N → Option ℕ
  count_held v = option_map (λ h. h.count) v.hold

  -- the seat with this standing
  abbrev pub seat_view : TableId → Standing N → SeatView N
  seat_view table v = record {
    table = table;
    name = v.name;
    parts = v.parts;
    gives = v.gives;
    empties = v.empties;
    seen = v.seen;
    holds = count_held v;
  }

  -- a seat that has done nothing yet
  abbrev pub fresh_seat : TableId → N → SeatView N
  fresh_seat table name = record { table = table; name = name; parts = 1; gives = 0; empties = 0; seen = 0; holds = None }

  -- the seat belongs to this turn, and does not hold it
  pub record IsIdle (table : TableId) (seat : SeatView N) : Type 0 where
    pub turn : seat.table ≡ table
    pub holds : seat.holds ≡ None

  -- how many of the turn's seats these stand for, and how many entries they gave
  abbrev pub parts_of_all : List (SeatView N) → ℕ
  parts_of_all seats = sum_by (λ (seat : SeatView N). seat.parts) seats

  abbrev pub gives_of_all : List (SeatView N) → ℕ
  gives_of_all seats = sum_by (λ (seat : SeatView N). seat.gives) seats

module _ {T N : Type 0} where
  -- the table's seat in a seat that does not hold the turn has no slot
  abbrev pub HoldsNothing : TableSeat T N → Type 0
  HoldsNothing me = (me.0.hold ≡ None) × (me.1 ≡ [])

  -- that in one that holds it knows how many entries the value had, and has the slot, which is empty
  abbrev pub HoldsTurn : TableSeat T N → ℕ → Type 0
  HoldsTurn me count =
      (me.0.hold ≡ Some (record { count = count; is_raised = false }))
      × (me.0.seen ≡ count)
      × (me.1 ≡ (0, None) ∷ [])

  -- how the table's seat lies in a seat that knows how many entries it gave, and how many the value had that it took
  pub record IsSeated (me : TableSeat T N) (gives taken : ℕ) : Type 0 where
    pub some_part : 0 < me.0.parts
    pub given : me.0.gives ≡ gives
    pub hold : HoldsNothing me ⊎ HoldsTurn me taken
