use Rattle.std.proofs.Common.{subst}
use Rattle.std.specs.Prelude.{IfOk, IfErr}
use Rattle.std.proofs.lemmas.Result.{IfOk-weaker, IfErr-weaker}
use Rattle.order_state.specs.Ordered.{Ordered, agreed_in}
use Rattle.order_state.specs.Decision.{IsPlan, IsStop}
use Rattle.order_state.proofs.OrderLemmas.{IsPlan-agreed, IsStop-agreed}
use Rattle.order_state.proofs.order.Order.plan.Goals as goal

pub returns-clause-ok : goal.returns-clause-ok
returns-clause-ok g c =
    subst (λ (o : Ordered). IfOk c.plan.result (IsPlan (agreed_in o) c.args.batch.now)) c.self.view_is (IfOk-weaker c.plan.result _ _ (IsPlan-agreed c.self.inside.refs.born c.self.inside.refs.counts c.self.inside.graph c.args.batch.now) c.plan.ensures.ok)

pub returns-clause-err : goal.returns-clause-err
returns-clause-err g c =
    subst (λ (o : Ordered). IfErr c.plan.result (IsStop (agreed_in o) c.args.batch.now)) c.self.view_is (IfErr-weaker c.plan.result _ _ (IsStop-agreed c.self.inside.refs.born c.self.inside.refs.counts c.self.inside.graph c.args.batch.now) c.plan.ensures.err)
