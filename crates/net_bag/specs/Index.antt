-- The words of bits that say which packets are closed: lost or delivered.
use Rattle.std.specs.Prelude.{◌≡◌, ◌≤◌, ◌<◌, ℕ, ◌+◌, ◌*◌, ◌/◌, ◌%◌, ◌^◌, ◌||◌, ◌==◌, ◌++◌, ◌∷◌, [], Bool, false, List, length}
use Rattle.std.specs.Prelude.{slice_index, slice_index_or, if◌then◌else◌}
use Rattle.std.specs.Int.{bit_at}

-- bit i of the words, 64 of them in each
abbrev pub bit_in : List ℕ → ℕ → ℕ
bit_in words i = bit_at (slice_index words (i / 64)) (i % 64)

abbrev pub mark_bit : Bool → ℕ
mark_bit mark = if mark then 1 else 0

-- 1 where one of the marks stands at index i
abbrev pub closed_bit : List Bool → List Bool → ℕ → ℕ
closed_bit lost delivered i = mark_bit (slice_index_or lost i false || slice_index_or delivered i false)

-- the words have these bits, and are as many as they need to be
pub record IsIndexed (words : List ℕ) (lost delivered : List Bool) : Type 0 where
  pub bits : (i : ℕ) → bit_in words i ≡ closed_bit lost delivered i
  pub room : length lost ≤ 64 * length words
  pub few : 64 * length words ≤ length lost + 63

-- the words with room for one bit more where so many are there
abbrev pub words_for : List ℕ → ℕ → List ℕ
words_for words count = if count == 64 * length words then words ++ 0 ∷ [] else words

-- the least place from this one on whose bit of a word is 0
pub record IsFirstUnset (word low t : ℕ) : Type 0 where
  pub from : low ≤ t
  pub within : t < 64
  pub unset : bit_at word t ≡ 0
  pub set_before : (i : ℕ) → low ≤ i → i < t → bit_at word i ≡ 1

-- the least place from this one on whose bit of the words is 0
pub record IsFirstUnsetIn (words : List ℕ) (low i : ℕ) : Type 0 where
  pub from : low ≤ i
  pub within : i < 64 * length words
  pub unset : bit_in words i ≡ 0
  pub set_before : (j : ℕ) → low ≤ j → j < i → bit_in words j ≡ 1
