-- What each step tells the seat that makes it, and how seats are split and joined.
use Rattle.std.specs.Prelude.{◌≡◌, ◌≢◌, ◌<◌, ◌≤◌, ◌+◌, ◌-◌, ◌^◌, ℕ, true, false, max, [], ◌∷◌, None, Some, IfSome}
use Rattle.replica_lock.specs.declared.standing.Standing.{Standing}
use Rattle.replica_lock.specs.Rule.{TableSeat, ahead}

module _ {N : Type 0} where
  -- a seat that holds the turn with a value of this many entries
  abbrev pub holding : Standing N → ℕ → Standing N
  holding v count = record v { seen = count; hold = Some (record { count = count; is_raised = false }) }

  -- a seat that has raised the history from this count
  abbrev pub raising : Standing N → ℕ → Standing N
  raising v count = record v {
    gives = v.gives + 1;
    seen = count + 1;
    hold = Some (record { count = count; is_raised = true });
  }

  -- what is left of a seat once another is split off it, and that one
  abbrev pub remaining : Standing N → Standing N
  remaining v = record v { parts = v.parts - 1 }

  abbrev pub split_off : Standing N → Standing N
  split_off v = record v { parts = 1; gives = 0; empties = 0; hold = None }

  -- a seat into which another was joined, and what is left of that one
  abbrev pub joined : Standing N → Standing N → Standing N
  joined v w = record v {
    parts = v.parts + w.parts;
    gives = v.gives + w.gives;
    empties = v.empties + w.empties;
    seen = max v.seen w.seen;
  }

  abbrev pub spent : N → Standing N
  spent nowhere = record { parts = 0; gives = 0; empties = 0; seen = 0; name = nowhere; hold = None }

module _ {T N : Type 0} where
  -- the seat took the turn, and the value is out with it
  pub record Takes (count_of : T → ℕ) (name_of : T → N) (v : Standing N) (after : TableSeat T N) : Type 0 where
    pub value : T
    pub out : after.1 ≡ (0, Some value) ∷ []
    pub holds : after.0 ≡ holding v (count_of value)
    pub named : name_of value ≡ v.name
    pub small : count_of value < 2 ^ 58

  -- an exchange of the turn word with 1: where it was 0, the seat took the turn, and else it found it taken once more
  abbrev pub took : (T → ℕ) → (T → N) → TableSeat T N → ℕ → TableSeat T N → Type 0
  took count_of name_of me found after =
      (found ≡ 0 → Takes count_of name_of me.0 after)
      × (found ≢ 0 → after ≡ (record me.0 { empties = me.0.empties + 1 }, me.1))

  -- the history word is raised by one
  abbrev pub raised : TableSeat T N → ℕ → TableSeat T N → Type 0
  raised me found after = (after ≡ (raising me.0 found, me.1)) × IfSome me.0.hold (λ h. found ≡ h.count)

  -- the turn word is cleared
  abbrev pub gave : TableSeat T N → ℕ → TableSeat T N → Type 0
  gave me found after = after ≡ (record me.0 { hold = None }, [])

  -- a load of the history word: it is no less than the seat had seen, nor than it gave, and a holder finds what it knows
  abbrev pub looked : TableSeat T N → ℕ → TableSeat T N → Type 0
  looked me found after =
      (after ≡ (record me.0 { seen = found }, me.1))
      × (me.0.seen ≤ found)
      × (me.0.gives ≤ found)
      × (found < 2 ^ 58)
      × IfSome me.0.hold (λ h. found ≡ h.count + ahead h.is_raised)
