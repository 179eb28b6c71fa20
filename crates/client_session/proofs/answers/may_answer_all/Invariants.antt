use Rattle.std.proofs.Common.{◌≡◌, length, drop}
use Rattle.kr_protocol.specs.Client.{may_answer_all}
use Rattle.client_session.proofs.answers.may_answer_all.Given as goal

abbrev pub invariant-loop-i : goal.invariant-loop-i
invariant-loop-i l =
    (length l.pairs ≡ length l.answers) × (may_answer_all l.part l.pairs l.answers ≡ may_answer_all l.part (drop l.i l.pairs) (drop l.i l.answers))
