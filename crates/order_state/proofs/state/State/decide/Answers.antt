use Rattle.std.proofs.Common.{◌≡◌, length, ap, subst, arith}
use Rattle.std.specs.Prelude.{IfOk}
use Rattle.std.proofs.lemmas.Result.{IfOk-weaker}
use Rattle.kr_order.specs.Agreed.{agreed_of}
use Rattle.order_state.specs.Decision.{IsDecision}
use Rattle.order_state.specs.Standing.{Standing}
use Rattle.order_state.proofs.StateLemmas.{IsDecision-create, IsDecision-batch, CanCountOn-history}
use Rattle.order_state.proofs.state.State.decide.Goals as goal

pub returns-in-Create-clause-decision : goal.returns-in-Create-clause-decision
returns-in-Create-clause-decision g c =
    IsDecision-create c.args.self.now.history c.args.command.now c.next_event.result c.in-Create.is c.next_event.ensures

pub returns-in-Assign-clause-decision : goal.returns-in-Assign-clause-decision
returns-in-Assign-clause-decision g c =
    let inside = c.self.inside in
    subst (λ (s : Standing). IfOk c.decide.result (IsDecision (agreed_of s.history) c.args.command.now)) c.self.view_is (IfOk-weaker c.decide.result _ _ (λ decision. IsDecision-batch inside.entries.items inside.order c.args.command.now c.in-Assign.batch decision c.self.invariant.order c.in-Assign.is) c.decide.ensures)

pub acquired-requires : goal.acquired-requires
acquired-requires g c =
    let entries = c.self.inside.entries in
    let size : length entries.items ≡ length c.args.self.now.history = ap (λ (s : Standing). length s.history) c.self.view_is in
    CanCountOn-history entries.items c.self.inside.order c.self.invariant.order (omega (arith, size, c.requires.few))
