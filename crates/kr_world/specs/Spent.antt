-- Where no more servers are made.
use Rattle.std.specs.Prelude.{◌≡◌, ◌≤◌, None, Some}
use Rattle.script_lang.specs.declared.script.Event.TheVariants.{Join}
use Rattle.kr_world.specs.declared.refusal.Refusal.TheVariants.{ServersSpent}
use Rattle.kr_world.specs.World.{World}
use Rattle.kr_world.specs.Step.{most_servers, refusal_of}

-- 64 servers were made, and none is being added
pub record AreSpent (world : World) : Type 0 where
  pub none : world.manager.current.joiner ≡ None
  pub all : most_servers ≤ world.manager.made

-- a join is refused for that exactly where it is so
pub record JoinsEnd : Type 0 where
  pub refused : (world : World) → AreSpent world → refusal_of world Join ≡ Some ServersSpent
  pub only : (world : World) → refusal_of world Join ≡ Some ServersSpent → AreSpent world
