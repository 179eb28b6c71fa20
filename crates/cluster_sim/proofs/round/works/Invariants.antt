use Rattle.std.proofs.Common.{◌≡◌, map}
use Rattle.std.specs.Prelude.{filter}
use Rattle.kr_order.specs.Numbers.{numbers_to}
use Rattle.kr_world.specs.Round.{runs, work_of}
use Rattle.cluster_parts.specs.PartsStanding.{world_of}
use Rattle.cluster_sim.proofs.round.works.Given as goal

abbrev pub invariant-loop-i : goal.invariant-loop-i
invariant-loop-i l = l.events.items ≡ map work_of (filter (runs (world_of l.parts)) (numbers_to l.i))
