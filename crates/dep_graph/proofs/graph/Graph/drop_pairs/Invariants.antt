use Rattle.std.proofs.Common.{◌≡◌, ◌≤◌, ◌+◌, false, cond, [], length}
use Rattle.dep_graph.specs.GraphView.{outs_of}
use Rattle.dep_graph.proofs.ChangeLemmas.{IsDropping}
use Rattle.dep_graph.proofs.graph.Graph.drop_pairs.Given as goal

abbrev pub invariant-loop-dropped : goal.invariant-loop-dropped
invariant-loop-dropped l = record {
  way : IsDropping l.id.0 l.initial.self.pairs l.self.pairs l.initial.self.bare l.self.bare;
  ended : l.dropped ≡ false → outs_of l.self.pairs l.id.0 ≡ [];
  vertices : l.self.vertices ≡ l.initial.self.vertices;
  slots : l.self.slots ≡ l.initial.self.slots;
  spare_vertices : l.self.spare_vertices ≡ l.initial.self.spare_vertices;
  spare_pairs : l.initial.self.spare_pairs ≤ l.self.spare_pairs;
}

abbrev pub decreases-loop-dropped : goal.decreases-loop-dropped
decreases-loop-dropped l = length l.self.pairs + cond l.dropped 1 0
