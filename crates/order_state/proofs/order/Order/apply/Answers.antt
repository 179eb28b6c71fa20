use Rattle.std.proofs.Common.{◌≡◌, ◌++◌, sym, subst}
use Rattle.kr_order.specs.Agreed.{pairs_after}
use Rattle.order_state.specs.Ordered.{Ordered, agreed_in}
use Rattle.order_state.specs.Decision.{adds_of}
use Rattle.order_state.proofs.FitLemmas.{adds_fit}
use Rattle.order_state.proofs.order.Order.apply.Goals as goal

pub carry_out-requires-clause-fits : goal.carry_out-requires-clause-fits
carry_out-requires-clause-fits c =
    adds_fit c.self.inside.refs.born c.self.inside.refs.counts c.self.inside.graph c.args.command.now (adds_of c.args.plan) c.self.invariant (subst (λ (o : Ordered). pairs_after c.args.command.now (agreed_in o) ≡ o.pairs ++ adds_of c.args.plan) (sym c.self.view_is) c.requires.adds)
