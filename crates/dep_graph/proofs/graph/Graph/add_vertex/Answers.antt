use Rattle.std.proofs.Common.{◌≡◌, ◌<◌, refl, sym, ap, ◌∙◌, subst}
use Rattle.std.specs.Prelude.{Some}
use Rattle.std.specs.List.{All}
use Rattle.dep_graph.specs.GraphView.{GraphView, event_at}
use Rattle.dep_graph.proofs.HeldLemmas.{events_of}
use Rattle.dep_graph.proofs.ChangeLemmas.{entries_below, is_held-above, IsSound-vertex, cells_kept}
use Rattle.dep_graph.proofs.graph.Graph.add_vertex.Goals as goal

pub push-requires-clause-greatest : goal.push-requires-clause-greatest
push-requires-clause-greatest c =
    entries_below c.self.inside.keys.entries c.args.id.0 (subst (λ (g : GraphView). All (λ vertex. vertex < c.args.id.0) g.vertices) (sym c.self.view_is) c.requires.greatest)

pub invariant_of-self : goal.invariant_of-self
invariant_of-self c =
    let own = c.self.inside in
    let absent = is_held-above (events_of own.keys.entries) c.args.id.0 (subst (λ (g : GraphView). All (λ vertex. vertex < c.args.id.0) g.vertices) (sym c.self.view_is) c.requires.greatest) in
    (rw c.push.ensures.entries (IsSound-vertex own.keys.entries own.cells c.insert_reserved-key.new.self own.links.items own.bare.items c.insert_reserved-key.result _ c.self.invariant.0 absent c.insert_reserved-key.ensures.was_vacant c.insert_reserved-key.ensures.updates refl refl), c.self.invariant.1)

pub returns-clause-cells : goal.returns-clause-cells
returns-clause-cells c cell event is =
    cells_kept c.self.inside.cells c.insert_reserved-key.new.self c.insert_reserved-key.result _ cell event c.insert_reserved-key.ensures.was_vacant c.insert_reserved-key.ensures.updates (ap (λ (g : GraphView). event_at g.slots cell) c.self.view_is ∙ is)
