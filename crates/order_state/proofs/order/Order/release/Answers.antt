use Rattle.order_state.proofs.OrderLemmas.{IsOrder-collect}
use Rattle.order_state.proofs.order.Order.release.Goals as goal

pub invariant_of-self : goal.invariant_of-self
invariant_of-self c =
    let inside = c.self.inside in
    rw c.release.ensures.born (IsOrder-collect inside.refs.born inside.refs.counts c.release.new.self.counts inside.graph c.collect.new.graph c.args.event.0 c.self.invariant c.release.ensures.count c.release.ensures.below c.collect.ensures.vertices c.collect.ensures.kept c.collect.ensures.bare)
