use Rattle.std.proofs.Common.{◌≡◌, sym, ap, ◌∙◌, subst, [], length}
use Rattle.std.specs.Prelude.{Some}
use Rattle.dep_graph.specs.GraphView.{GraphView, event_at, outs_of, ins_of, is_held, without}
use Rattle.dep_graph.proofs.HeldLemmas.{events_of, events_of-without}
use Rattle.dep_graph.proofs.ChangeLemmas.{IsSound-remove}
use Rattle.dep_graph.proofs.graph.Graph.remove_vertex.Goals as goal

pub invariant_of-self : goal.invariant_of-self
invariant_of-self c =
    let own = c.self.inside in
    let is = sym c.self.view_is in
    let here = ap (λ (g : GraphView). event_at g.slots c.args.key) c.self.view_is ∙ c.requires.cell in
    let outs = ap (λ (g : GraphView). outs_of g.pairs c.args.id.0) c.self.view_is ∙ c.requires.outs in
    let ins = ap (λ (g : GraphView). ins_of g.pairs c.args.id.0) c.self.view_is ∙ c.requires.ins in
    let apart = ap (λ (g : GraphView). is_held g.bare c.args.id.0) c.self.view_is ∙ c.requires.apart in
    (rw c.remove-2.ensures.entries (IsSound-remove own.keys.entries own.cells c.remove.new.self own.links.items own.bare.items c.args.key c.args.id.0 c.self.invariant.0 here outs ins apart c.remove.ensures.updates), c.self.invariant.1)

pub returns-clause-vertices : goal.returns-clause-vertices
returns-clause-vertices c =
    ap events_of c.remove-2.ensures.entries ∙ events_of-without c.self.inside.keys.entries c.args.id.0 ∙ ap (λ (g : GraphView). without g.vertices c.args.id.0) c.self.view_is
