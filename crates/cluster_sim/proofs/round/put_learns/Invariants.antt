use Rattle.std.proofs.Common.{◌≡◌, ◌++◌, map}
use Rattle.kr_order.specs.Numbers.{numbers_to}
use Rattle.kr_world.specs.Round.{learn_of}
use Rattle.cluster_sim.proofs.round.put_learns.Given as goal

abbrev pub invariant-loop-i : goal.invariant-loop-i
invariant-loop-i l = l.events.items ≡ l.initial.events.items ++ map learn_of (numbers_to l.i)
