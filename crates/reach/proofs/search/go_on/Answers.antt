use Rattle.std.proofs.Common.{◌≤◌, ◌*◌, length, sym, arith, one-mul, mul-le-mul_right}
use Rattle.reach.specs.Search.{numbered}
use Rattle.reach.proofs.EndLemmas.{reach-kept_extra, some_found, steps_bound, IsUnderWay-kept}
use Rattle.reach.proofs.search.go_on.Goals as goal

pub returns-then-follow_each-clause-value : goal.returns-then-follow_each-clause-value
returns-then-follow_each-clause-value g c =
    sym (reach-kept_extra c.args.graph.now (numbered c.args.extra.now) c.args.a.0 c.args.b.0 c.args.found.now.cells c.requires.kept (c.follow_each.ensures.met c.if-follow_each.true))

pub returns-then-follow_each-clause-most : goal.returns-then-follow_each-clause-most
returns-then-follow_each-clause-most g c =
    let graph = c.args.graph.now in
    let cells = c.args.found.now.cells in
    let extra = length c.args.extra.now in
    let one = one-mul extra in
    steps_bound graph cells c.args.steps.now c.follow_each.new.steps 1 extra c.recall_graph.ensures c.requires.kept.placed (omega (arith, one, c.follow_each.ensures.most)) (omega (arith, some_found graph.slots c.args.a.0 cells c.requires.kept.start))

pub walk_on-requires-clause-under_way : goal.walk_on-requires-clause-under_way
walk_on-requires-clause-under_way g c =
    let led = c.follow_each.ensures in
    IsUnderWay-kept c.args.graph.now (numbered c.args.extra.now) c.args.a.0 c.args.b.0 c.args.found.now.cells c.follow_each.new.found.cells c.len-next.result c.requires.kept c.requires.out (led.leads c.if-follow_each.false) (led.followed c.if-follow_each.false) led.front led.placed c.len-next.ensures.value

pub returns-clause-most : goal.returns-clause-most
returns-clause-most g c =
    let extra = length c.args.extra.now in
    let next = c.len-next.result in
    let some : 1 ≤ next = omega (arith, c.len-next.ensures.value, some_found c.args.graph.now.slots c.args.a.0 c.args.found.now.cells c.requires.kept.start) in
    let product : 1 * extra ≤ next * extra = mul-le-mul_right extra some in
    c.walk_on.ensures.most c.args.steps.now (omega (arith, product, one-mul extra, c.follow_each.ensures.most))
