use Rattle.std.proofs.Common.{◌≡◌, [], ◌∷◌, ap, ◌∙◌, arith}
use Rattle.reach.specs.Finds.{with}
use Rattle.reach.specs.Search.{numbered}
use Rattle.reach.proofs.EndLemmas.{IsUnderWay-first}
use Rattle.reach.proofs.search.walk.Goals as goal

pub walk_on-requires-clause-under_way : goal.walk_on-requires-clause-under_way
walk_on-requires-clause-under_way g c =
    let only : c.add.new.self.cells ≡ c.cell_of.result ∷ [] = c.add.ensures.cells ∙ ap (λ cells. with cells c.cell_of.result) c.clear.ensures.cells in
    rw only (IsUnderWay-first c.args.graph.now (numbered c.args.extra.now) c.args.a.0 c.args.b.0 c.cell_of.result c.cell_of.ensures.event)

pub returns-clause-most : goal.returns-clause-most
returns-clause-most g c = c.walk_on.ensures.most c.args.steps.now (omega arith)
