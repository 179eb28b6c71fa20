-- How the text of a number begins.
use Rattle.std.specs.Prelude.{◌≡◌, ◌≢◌, ℕ, ◌<◌, List, length, slice_index}

-- the text has a byte, no `+` in front, and a `0` in front only where it is all
pub record BeginsPlain (text : List ℕ) : Type 0 where
  pub some : 0 < length text
  pub plus : slice_index text 0 ≢ 43
  pub zero : slice_index text 0 ≡ 48 → length text ≡ 1
