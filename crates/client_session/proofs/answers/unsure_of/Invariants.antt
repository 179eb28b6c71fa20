use Rattle.std.proofs.Common.{◌≡◌, ◌≤◌, ◌++◌, length, drop}
use Rattle.kr_protocol.specs.Client.{unsure_of}
use Rattle.client_session.proofs.answers.unsure_of.Given as goal

abbrev pub invariant-loop-i : goal.invariant-loop-i
invariant-loop-i l =
    (unsure_of l.pairs l.answers ≡ l.left ++ unsure_of (drop l.i l.pairs) (drop l.i l.answers)) × (length l.left ≤ l.i)
