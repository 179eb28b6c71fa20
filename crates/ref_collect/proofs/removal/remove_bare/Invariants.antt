use Rattle.std.proofs.Common.{◌≡◌, ◌≤◌, ◌+◌, length}
use Rattle.ref_collect.specs.Needed.{AreWaiting, NeedsTheSame}
use Rattle.ref_collect.proofs.removal.remove_bare.Given as goal

abbrev pub invariant-loop-id : goal.invariant-loop-id
invariant-loop-id l = record {
  waiting : AreWaiting l.refs.counts l.graph.pairs l.graph.vertices l.graph.bare;
  same : NeedsTheSame l.refs.counts l.initial.graph.pairs l.initial.graph.vertices l.graph.pairs l.graph.vertices;
  slots : length l.graph.slots ≡ length l.initial.graph.slots;
  spare_vertices : l.initial.graph.spare_vertices ≤ l.graph.spare_vertices;
  spare_pairs : l.initial.graph.spare_pairs ≤ l.graph.spare_pairs;
}

abbrev pub decreases-loop-id : goal.decreases-loop-id
decreases-loop-id l = length l.graph.bare + length l.graph.pairs
