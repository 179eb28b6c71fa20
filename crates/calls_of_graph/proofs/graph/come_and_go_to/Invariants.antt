use Rattle.std.proofs.Common.{◌≡◌, []}
use Rattle.calls_of_graph.proofs.graph.come_and_go_to.Given as goal

abbrev pub invariant-loop-n : goal.invariant-loop-n
invariant-loop-n g l = record {
  vertices : l.graph.vertices ≡ [];
  pairs : l.graph.pairs ≡ [];
  bare : l.graph.bare ≡ [];
}
