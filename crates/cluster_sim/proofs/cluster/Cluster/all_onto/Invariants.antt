use Rattle.std.proofs.Common.{take}
use Rattle.cluster_sim.specs.Steps.{DoesSteps}
use Rattle.cluster_sim.proofs.cluster.Cluster.all_onto.Given as goal

abbrev pub invariant-loop-event : goal.invariant-loop-event
invariant-loop-event g l =
    DoesSteps l.fn.self (take l.event-index l.events) l.fn.lines.items l.self l.lines.items
