-- A list that another begins with.
use Rattle.std.specs.Prelude.{◌≡◌, List, ◌++◌}

-- the new list is the old one with more behind it
pub record IsPrefix {X : Type 0} (old new : List X) : Type 0 where
  pub more : List X
  pub is : new ≡ old ++ more
