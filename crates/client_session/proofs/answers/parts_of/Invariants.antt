use Rattle.std.proofs.Common.{◌≡◌, ◌++◌, drop}
use Rattle.kr_protocol.specs.Client.{parts_of}
use Rattle.client_session.proofs.answers.parts_of.Given as goal

abbrev pub invariant-loop-i : goal.invariant-loop-i
invariant-loop-i l =
    parts_of l.q l.entry l.by l.pairs l.answers ≡ l.parts ++ parts_of l.q l.entry l.by (drop l.i l.pairs) (drop l.i l.answers)
