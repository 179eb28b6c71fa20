use Rattle.std.proofs.Common.{◌≡◌, ◌++◌, take}
use Rattle.std.specs.Prelude.{flat_map}
use Rattle.script_lang.specs.Line.{line}
use Rattle.live_driver.specs.Text.{told_text}
use Rattle.live_driver.proofs.print.put_calls.Given as goal

abbrev pub invariant-loop-answer : goal.invariant-loop-answer
invariant-loop-answer l =
    l.out.items ≡ l.initial.out.items ++ flat_map (λ answer. line (told_text answer)) (take l.answer-index l.answers)
