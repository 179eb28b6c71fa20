-- What contracts see of a table of events.
use Rattle.std.specs.Prelude.{ℕ, ◌<◌, not, ◌==◌, if◌then◌else◌, Option, None, Some, List, [], ◌∷◌, map}
use Rattle.std.specs.List.{AllPairs, filter}

-- each event with its number, the smallest event first; and how many more fit without memory
pub record TableView : Type 0 where
  pub entries : List (ℕ × ℕ)
  pub spare : ℕ

-- each event stands once, behind the smaller ones
abbrev pub AreRising : List (ℕ × ℕ) → Type 0
AreRising entries = AllPairs (λ x y. x.0 < y.0) entries

-- the number of the event, if it has one
abbrev pub number_of : List (ℕ × ℕ) → ℕ → Option ℕ
number_of [] event = None
number_of (entry ∷ more) event = if entry.0 == event then Some entry.1 else number_of more event

-- the entry, with this number where it is the event's
abbrev pub renumbered : ℕ → ℕ → ℕ × ℕ → ℕ × ℕ
renumbered event number entry = if entry.0 == event then (event, number) else entry

-- the entries with this number for the event
abbrev pub with_number : List (ℕ × ℕ) → ℕ → ℕ → List (ℕ × ℕ)
with_number entries event number = map (renumbered event number) entries

-- the entries but that of the event
abbrev pub entries_without : List (ℕ × ℕ) → ℕ → List (ℕ × ℕ)
entries_without entries event = filter (λ entry. not (entry.0 == event)) entries
