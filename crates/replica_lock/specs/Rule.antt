-- The rule of the table behind a turn. Word 0 is the history word, which counts the history; word 1 is the turn word,
-- which is 1 while a seat holds the turn, and else 0; the one slot has the value. A seat without parts is spent: it was
-- joined into another.
use Rattle.std.specs.Prelude.{◌≡◌, ◌≢◌, ◌<◌, ◌≤◌, ◌+◌, ◌*◌, ◌⊎◌, ℕ, Bool, true, false, List, [], ◌∷◌, Option, None, Some, sum_by}
use mathlib.Core.Option.{some, none}
use mathlib.Core.Option as maybe
use lib.ListN.{get_elem?}
use Rattle.atomic_table.specs.Table.{State, Me}
use Rattle.replica_lock.specs.declared.seat.TheConstants.{MOST_SEATS, MOST_GIVES}
use Rattle.replica_lock.specs.declared.standing.About.{About}
use Rattle.replica_lock.specs.declared.standing.Hold.{Hold}
use Rattle.replica_lock.specs.declared.standing.Standing.{Standing}

-- the slots: each at home with what it has, or out with a seat
abbrev pub Homes : Type 0 → Type 0
Homes T = List (maybe.Option (Option T))

-- the table as plain data, and one of its seats: what it knows, and the slots that it has out
abbrev pub TurnState : Type 0 → Type 0 → Type 0
TurnState T N = State (Option T) (Standing N)

abbrev pub TableSeat : Type 0 → Type 0 → Type 0
TableSeat T N = Me (Option T) (Standing N)

-- by how many entries the history is ahead of the value as it was taken
abbrev pub ahead : Bool → ℕ
ahead true = 1
ahead false = 0

module _ {N : Type 0} where
  -- a seat that stands for so many seats, and has done nothing yet
  abbrev pub standing_for : N → ℕ → Standing N
  standing_for name seats = record { parts = seats; gives = 0; empties = 0; seen = 0; name = name; hold = None }

  -- what a seat may know, where the history has this count and the turn this name
  pub record IsStanding (history : ℕ) (name : N) (v : Standing N) : Type 0 where
    pub few : v.gives ≤ MOST_GIVES * v.parts
    pub named : 0 < v.parts → v.name ≡ name
    pub seen : v.seen ≤ history
    pub spent : v.parts ≡ 0 → v.hold ≡ None

  -- every seat knows what it may
  abbrev pub AreStanding : ℕ → N → List (Standing N) → Type 0
  AreStanding history name views =
      (seat : ℕ) (v : Standing N) → get_elem? views seat ≡ some v → IsStanding history name v

  -- how many of the turn's seats all seats stand for, and how many entries they gave
  abbrev pub all_parts : List (Standing N) → ℕ
  all_parts views = sum_by (λ (v : Standing N). v.parts) views

  abbrev pub all_gives : List (Standing N) → ℕ
  all_gives views = sum_by (λ (v : Standing N). v.gives) views

module _ {T N : Type 0} where
  -- no seat holds the turn. The value is at home, has the turn's name, and as many entries as the history
  pub record IsFree (count_of : T → ℕ) (name_of : T → N) (name : N) (history turn : ℕ) (homes : Homes T)
      (views : List (Standing N)) : Type 0 where
    pub cleared : turn ≡ 0
    pub value : T
    pub home : homes ≡ some (Some value) ∷ []
    pub named : name_of value ≡ name
    pub counted : count_of value ≡ history
    pub nobody : (seat : ℕ) (v : Standing N) → get_elem? views seat ≡ some v → v.hold ≡ None

  -- one seat holds the turn, and the value is out with it. The history has as many entries as the value had when it was
  -- taken, and one more once the seat has raised it
  pub record IsTaken (history turn : ℕ) (homes : Homes T) (views : List (Standing N)) : Type 0 where
    pub marked : turn ≡ 1
    pub out : homes ≡ none ∷ []
    pub holder : ℕ
    pub who : Standing N
    pub there : get_elem? views holder ≡ some who
    pub hold : Hold
    pub holds : who.hold ≡ Some hold
    pub counted : history ≡ hold.count + ahead hold.is_raised
    pub others : (seat : ℕ) (v : Standing N) → get_elem? views seat ≡ some v → seat ≢ holder → v.hold ≡ None

  -- who holds the turn
  abbrev pub HolderIs : (T → ℕ) → (T → N) → N → ℕ → ℕ → Homes T → List (Standing N) → Type 0
  HolderIs count_of name_of name history turn homes views =
      IsFree count_of name_of name history turn homes views ⊎ IsTaken history turn homes views

  -- the rule, of a turn that was made with this value and so many seats: the turn is free or one seat holds it, each
  -- seat knows what it may, the seats stand for all seats of the turn, and the history is what they gave
  pub record IsTurn (count_of : T → ℕ) (name_of : T → N) (about : About T) (s : TurnState T N) : Type 0 where
    pub history : ℕ
    pub turn : ℕ
    pub words : s.words ≡ history ∷ turn ∷ []
    pub holder : HolderIs count_of name_of (name_of about.value.value) history turn s.homes s.views
    pub each : AreStanding history (name_of about.value.value) s.views
    pub parts : all_parts s.views ≡ about.seats
    pub few : about.seats ≤ MOST_SEATS
    pub gives : all_gives s.views ≡ history
