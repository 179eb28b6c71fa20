use Rattle.order_state.proofs.OrderLemmas.{IsOrder-acquire}
use Rattle.order_state.proofs.order.Order.acquire.Goals as goal

pub invariant_of-self : goal.invariant_of-self
invariant_of-self c =
    let inside = c.self.inside in
    rw c.acquire.ensures.born (IsOrder-acquire inside.refs.born inside.refs.counts c.acquire.new.self.counts inside.graph c.args.event.0 c.self.invariant c.acquire.ensures.count c.acquire.ensures.events)
