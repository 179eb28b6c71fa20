use Rattle.std.proofs.Common.{◌≡◌, sym, ap, ◌∙◌}
use Rattle.std.specs.Prelude.{is_some}
use Rattle.dep_graph.specs.GraphView.{GraphView, is_held}
use Rattle.dep_graph.proofs.HeldLemmas.{is_held-number}
use Rattle.dep_graph.proofs.graph.Graph.cell_of.Goals as goal

pub returns-in-Some-clause-held : goal.returns-in-Some-clause-held
returns-in-Some-clause-held c =
    sym (ap (λ (g : GraphView). is_held g.vertices c.args.id.0) (sym c.self.view_is) ∙ is_held-number c.self.inside.keys.entries c.args.id.0 ∙ ap is_some (sym c.get.ensures ∙ c.in-Some.is))

pub returns-in-None-clause-held : goal.returns-in-None-clause-held
returns-in-None-clause-held c =
    sym (ap (λ (g : GraphView). is_held g.vertices c.args.id.0) (sym c.self.view_is) ∙ is_held-number c.self.inside.keys.entries c.args.id.0 ∙ ap is_some (sym c.get.ensures ∙ c.in-None.is))
