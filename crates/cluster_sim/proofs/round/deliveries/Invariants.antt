use Rattle.std.proofs.Common.{◌≡◌, map}
use Rattle.std.specs.Prelude.{filter}
use Rattle.kr_order.specs.Numbers.{numbers_to}
use Rattle.script_lang.specs.declared.script.Event.TheVariants.{Deliver}
use Rattle.kr_world.specs.Round.{is_under_way}
use Rattle.cluster_parts.specs.PartsStanding.{world_of}
use Rattle.cluster_sim.proofs.round.deliveries.Given as goal

abbrev pub invariant-loop-i : goal.invariant-loop-i
invariant-loop-i l = l.events.items ≡ map Deliver (filter (is_under_way (world_of l.parts)) (numbers_to l.i))
