use Rattle.std.proofs.Common.{length, ap, ◌∙◌}
use Rattle.kr_order.specs.Held.{held_events}
use Rattle.order_state.specs.Standing.{Standing}
use Rattle.order_state.proofs.state.State.held.Goals as goal

pub returns : goal.returns
returns c =
    c.held.ensures ∙ ap length c.self.invariant.order.events ∙ ap (λ (s : Standing). length (held_events s.history)) c.self.view_is
