-- What contracts see of the references of events.
use Rattle.std.specs.Prelude.{ℕ, ◌<◌, ◌≤◌, ◌+◌, ◌-◌, ◌==◌, nat_lt, if◌then◌else◌, Option, None, Some, List, [], ◌∷◌}
use Rattle.std.specs.List.{All, AllPairs}

-- each live event with its count, the smallest event first; the greatest event that was ever born, 0 where none was;
-- and how many more can be born without memory
pub record RefsView : Type 0 where
  pub counts : List (ℕ × ℕ)
  pub born : ℕ
  pub spare : ℕ

-- how many references the event has
abbrev pub count_of : List (ℕ × ℕ) → ℕ → ℕ
count_of [] event = 0
count_of (entry ∷ more) event = if entry.0 == event then entry.1 else count_of more event

-- each event stands once, behind the smaller ones
abbrev pub AreRising : List (ℕ × ℕ) → Type 0
AreRising counts = AllPairs (λ x y. x.0 < y.0) counts

-- each live event has a reference, and none is greater than the last that was born
pub record AreCounts (born : ℕ) (counts : List (ℕ × ℕ)) : Type 0 where
  pub live : All (λ entry. 0 < entry.1) counts
  pub latest : All (λ entry. entry.0 ≤ born) counts
