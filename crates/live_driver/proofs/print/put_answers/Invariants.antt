use Rattle.std.proofs.Common.{◌≡◌, ◌++◌, take}
use Rattle.live_driver.specs.Text.{answer_words}
use Rattle.live_driver.proofs.print.put_answers.Given as goal

abbrev pub invariant-loop-answer : goal.invariant-loop-answer
invariant-loop-answer l = l.out.items ≡ l.initial.out.items ++ answer_words (take l.answer-index l.answers)
