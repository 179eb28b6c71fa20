use Rattle.std.proofs.Common.{length, ap, ◌∙◌}
use Rattle.kr_order.specs.Held.{held_pairs}
use Rattle.order_state.specs.Standing.{Standing}
use Rattle.order_state.proofs.state.State.pairs_held.Goals as goal

pub returns : goal.returns
returns c =
    c.pairs_held.ensures ∙ ap length c.self.invariant.order.pairs ∙ ap (λ (s : Standing). length (held_pairs s.history)) c.self.view_is
