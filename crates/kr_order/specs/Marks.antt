-- Marks beside numbered things: number k has its mark at index k - 1.
use Rattle.std.specs.Prelude.{ℕ, ◌-◌, Bool, true, false, List, slice_set, slice_index_or}

-- the one of this number was marked
abbrev pub is_marked : List Bool → ℕ → Bool
is_marked marks k = slice_index_or marks (k - 1) false

-- the marks with one at this number
abbrev pub marked : List Bool → ℕ → List Bool
marked marks k = slice_set marks (k - 1) true
