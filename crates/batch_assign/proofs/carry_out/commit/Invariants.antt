use Rattle.std.proofs.Common.{◌≡◌, ◌≤◌, ◌+◌, ◌++◌, drop}
use Rattle.dep_graph.specs.GraphView.{CanAddAll}
use Rattle.reach.specs.Search.{numbered}
use Rattle.batch_assign.proofs.carry_out.commit.Given as goal

-- the pairs that are left can be added, and make of the graph what all of them make of the first
abbrev pub invariant-loop-pair : goal.invariant-loop-pair
invariant-loop-pair l = record {
  pairs : l.graph.pairs ++ numbered (drop l.pair-index l.pair-items) ≡ l.initial.graph.pairs ++ numbered l.pair-items;
  fits : CanAddAll l.graph.vertices l.graph.pairs (numbered (drop l.pair-index l.pair-items));
  spare_pairs : l.initial.graph.spare_pairs ≤ l.graph.spare_pairs + l.pair-index;
  vertices : l.graph.vertices ≡ l.initial.graph.vertices;
  bare : l.graph.bare ≡ l.initial.graph.bare;
  slots : l.graph.slots ≡ l.initial.graph.slots;
  spare_vertices : l.graph.spare_vertices ≡ l.initial.graph.spare_vertices;
}
