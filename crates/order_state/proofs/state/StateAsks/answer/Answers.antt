use Rattle.std.proofs.Common.{ap, ◌∙◌}
use Rattle.kr_order.specs.Answer.{answer_to}
use Rattle.order_state.specs.Standing.{Standing}
use Rattle.order_state.proofs.TellLemmas.{answer-held}
use Rattle.order_state.proofs.state.StateAsks.answer.Goals as goal

pub returns-clause-value : goal.returns-clause-value
returns-clause-value g c =
    c.answer.ensures.value ∙ answer-held c.self.inside.entries.items c.self.inside.order c.args.a.0 c.args.b.0 c.self.invariant.order ∙ ap (λ (s : Standing). answer_to s.history c.args.a.0 c.args.b.0) c.self.view_is
