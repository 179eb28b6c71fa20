use Rattle.std.proofs.Common.{◌≡◌, ◌++◌}
use Rattle.std.specs.Prelude.{flat_map}
use Rattle.kr_order.specs.Numbers.{numbers_to}
use Rattle.kr_world.specs.Round.{learnt_retry_of}
use Rattle.cluster_parts.specs.PartsStanding.{world_of}
use Rattle.cluster_sim.proofs.round.put_retries.Given as goal

abbrev pub invariant-loop-i : goal.invariant-loop-i
invariant-loop-i l =
    l.events.items ≡ l.initial.events.items ++ flat_map (learnt_retry_of (world_of l.parts)) (numbers_to l.i)
