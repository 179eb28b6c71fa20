-- Lists of numbers without repetition, and what contracts see of the cells that a search has found.
use Rattle.std.specs.Prelude.{◌≡◌, ◌<◌, ◌≤◌, ◌++◌, [], ◌∷◌, ℕ, Bool, List, length, slice_index_or, nat_eq, if◌then◌else◌}
use Rattle.std.specs.List.{All, IsDistinct, list_any}

-- the number is one of the list
abbrev pub is_in : List ℕ → ℕ → Bool
is_in xs x = list_any (nat_eq x) xs

-- the list with the number, which comes last where it was not there yet
abbrev pub with : List ℕ → ℕ → List ℕ
with xs x = if is_in xs x then xs else xs ++ x ∷ []

-- the cells that a search has found, the first found first, and how many cells there is room for
pub record Finds : Type 0 where
  pub cells : List ℕ
  pub room : ℕ

-- the cells of this search are those whose mark is its number, and there is room for all of them
pub record IsMarked (marks : List ℕ) (number : ℕ) (cells : List ℕ) (capacity : ℕ) : Type 0 where
  pub marked : (cell : ℕ) → cell < length marks → is_in cells cell ≡ nat_eq (slice_index_or marks cell 0) number
  pub below : All (λ cell. cell < length marks) cells
  pub distinct : IsDistinct nat_eq cells
  pub earlier : All (λ mark. mark ≤ number) marks
  pub numbered : 1 ≤ number
  pub room : length marks ≤ capacity

-- the list with each of the numbers
abbrev pub with_all : List ℕ → List ℕ → List ℕ
with_all xs [] = xs
with_all xs (y ∷ ys) = with_all (with xs y) ys
