use Rattle.std.proofs.Common.{ap, ◌∙◌}
use Rattle.kr_order.specs.History.{born_in}
use Rattle.order_state.specs.Standing.{Standing}
use Rattle.order_state.proofs.state.State.born.Goals as goal

pub returns : goal.returns
returns c = c.born.ensures ∙ c.self.invariant.order.born ∙ ap (λ (s : Standing). born_in s.history) c.self.view_is
