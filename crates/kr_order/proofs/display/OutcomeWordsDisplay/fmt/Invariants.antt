use Rattle.std.proofs.Common.{take}
use Rattle.std.specs.Fmt.{HasWritten, IsPlainFormatter}
use Rattle.kr_order.specs.Text.{outcome_words}
use Rattle.kr_order.proofs.display.OutcomeWordsDisplay.fmt.Given as goal

abbrev pub invariant-loop-outcome : goal.invariant-loop-outcome
invariant-loop-outcome g l =
    IsPlainFormatter l.initial.f → HasWritten g.W.Write.write_str_gives l.initial.f (outcome_words (take l.outcome-index l.outcome-items)) l.f
