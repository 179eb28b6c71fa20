-- What a cluster stands for.
use Rattle.std.specs.Prelude.{ℕ, Bool}
use Rattle.kr_world.specs.World.{World}

-- the world, whether a step found no memory, and how many parts were told as before in all steps so far, as far as a
-- number of the code goes
pub record ClusterStanding : Type 0 where
  pub world : World
  pub failed : Bool
  pub befores : ℕ
