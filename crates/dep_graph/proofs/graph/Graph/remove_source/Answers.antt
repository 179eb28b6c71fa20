use Rattle.std.proofs.Common.{ap, ◌∙◌}
use Rattle.dep_graph.specs.GraphView.{is_held}
use Rattle.dep_graph.proofs.ChangeLemmas.{not_bared}
use Rattle.dep_graph.proofs.graph.Graph.remove_source.Goals as goal

pub remove_vertex-requires-clause-apart : goal.remove_vertex-requires-clause-apart
remove_vertex-requires-clause-apart c =
    ap (λ bare. is_held bare c.args.id.0) c.drop_pairs.ensures.bare ∙ not_bared c.args.self.now.pairs c.args.self.now.bare c.args.id.0 c.recall_graph.ensures.acyclic c.requires.apart
