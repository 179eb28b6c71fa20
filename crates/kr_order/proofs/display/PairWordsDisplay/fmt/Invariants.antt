use Rattle.std.proofs.Common.{take}
use Rattle.std.specs.Fmt.{HasWritten, IsPlainFormatter}
use Rattle.kr_order.specs.Text.{pair_words}
use Rattle.kr_order.proofs.display.PairWordsDisplay.fmt.Given as goal

abbrev pub invariant-loop-pair : goal.invariant-loop-pair
invariant-loop-pair g l =
    IsPlainFormatter l.initial.f → HasWritten g.W.Write.write_str_gives l.initial.f (pair_words (take l.pair-index l.pair-items)) l.f
