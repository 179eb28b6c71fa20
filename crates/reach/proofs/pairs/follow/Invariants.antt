use Rattle.std.proofs.Common.{◌≡◌, ◌+◌, length}
use Rattle.dep_graph.specs.GraphView.{outs_of}
use Rattle.reach.specs.Walk.{event_of}
use Rattle.reach.proofs.WalkLemmas.{Follows}
use Rattle.reach.proofs.pairs.follow.Given as goal

abbrev pub invariant-loop-out : goal.invariant-loop-out
invariant-loop-out g l =
    let outs = outs_of l.graph.pairs (event_of l.graph.slots l.cell) in
    record {
      follows : Follows l.graph.slots outs l.goal.0 l.initial.found.cells l.found.cells l.out-iterator;
      steps : l.steps + length l.out-iterator ≡ l.initial.steps + length outs;
      room : l.found.room ≡ l.initial.found.room;
    }
