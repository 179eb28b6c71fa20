use Rattle.std.proofs.Common.{◌++◌, subst, sym, ◌∙◌}
use Rattle.reach.specs.Search.{numbered}
use Rattle.reach.specs.Trails.{TrailView}
use Rattle.reach.specs.Walk.{IsKept}
use Rattle.reach.proofs.CellLemmas.{is_in-events}
use Rattle.reach.proofs.EndLemmas.{reach-kept}
use Rattle.reach.proofs.trail.Trail.goes_on.Goals as goal

pub returns-then-has-clause-value : goal.returns-then-has-clause-value
returns-then-has-clause-value g c =
    let graph = c.args.graph.now in
    let order = graph.pairs ++ numbered c.args.extra.now in
    let cells = c.self.inside.found.cells in
    let kept : IsKept graph order c.args.a.0 cells = subst (λ (t : TrailView). IsKept graph order c.args.a.0 t.cells) (sym c.self.view_is) c.requires.kept in
    let there = is_in-events graph.slots cells c.cell_of-cell.result c.args.b.0 (record { one = c.recall_graph.ensures.one_cell }) kept.placed c.cell_of-cell.ensures.event ∙ sym c.has.ensures ∙ c.if-has.true in
    sym (reach-kept graph order c.args.a.0 c.args.b.0 cells kept there c.requires.apart)

pub go_on-requires-clause-out : goal.go_on-requires-clause-out
go_on-requires-clause-out g c =
    let graph = c.args.graph.now in
    let order = graph.pairs ++ numbered c.args.extra.now in
    let cells = c.self.inside.found.cells in
    let kept : IsKept graph order c.args.a.0 cells = subst (λ (t : TrailView). IsKept graph order c.args.a.0 t.cells) (sym c.self.view_is) c.requires.kept in
    is_in-events graph.slots cells c.cell_of-cell.result c.args.b.0 (record { one = c.recall_graph.ensures.one_cell }) kept.placed c.cell_of-cell.ensures.event ∙ sym c.has.ensures ∙ c.if-has.false
