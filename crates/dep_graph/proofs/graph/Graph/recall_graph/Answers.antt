use Rattle.std.proofs.Common.{subst}
use Rattle.dep_graph.specs.GraphView.{IsGraph}
use Rattle.dep_graph.proofs.SoundLemmas.{IsGraph-sound}
use Rattle.dep_graph.proofs.ChangeLemmas.{apart_pairs}
use Rattle.dep_graph.proofs.graph.Graph.recall_graph.Goals as goal

pub returns : goal.returns
returns c =
    subst IsGraph c.self.view_is (IsGraph-sound c.self.inside.keys.entries c.self.inside.cells c.self.inside.links.items c.self.inside.bare.items _ _ c.recall_rising.ensures c.self.invariant.0)
