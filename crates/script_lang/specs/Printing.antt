-- What printing leaves where memory ran out.
use Rattle.std.specs.Prelude.{◌≡◌, ℕ, List, length, take}

-- the bytes still begin with what was there before
pub record Keeps (before now : List ℕ) : Type 0 where
  pub front : take (length before) now ≡ before
