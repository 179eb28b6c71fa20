use Rattle.std.proofs.Common.{◌≡◌, take, map}
use Rattle.kr_order.specs.Answer.{partial}
use Rattle.chain_server.proofs.told.partials.Given as goal

abbrev pub invariant-loop-answer : goal.invariant-loop-answer
invariant-loop-answer l = l.partials ≡ map partial (take l.answer-index l.answers)
