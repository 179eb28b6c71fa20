use Rattle.std.proofs.Common.{◌≡◌, ◌+◌, take, subst}
use Rattle.std.proofs.lemmas.List.{take_all}
use Rattle.query_worker.specs.Known.{KnowsAlso}
use Rattle.query_worker.specs.Told.{pairs_asked}
use Rattle.query_worker.proofs.KnownLemmas.{steps-known}
use Rattle.query_worker.proofs.worker.told.Goals as goal

pub returns-clause-most : goal.returns-clause-most
returns-clause-most g c =
    let loop = c.loop-query.invariant in
    let queries = c.args.queries.now in
    let whole : take c.loop-query.query-index queries ≡ queries =
    take_all c.loop-query.query-index queries c.loop-query-test.false in
    let pairs : KnowsAlso (pairs_asked queries) c.new-known.result c.loop-query.known =
    subst (λ qs. KnowsAlso (pairs_asked qs) c.new-known.result c.loop-query.known) whole loop.pairs in
    steps-known (g.A.Asks.held c.args.order.now + g.A.Asks.pairs_held c.args.order.now) c.args.steps.now c.loop-query.steps _ queries
    c.new-known.result c.loop-query.known c.new-known.ensures.empty loop.known pairs loop.most
