use Rattle.std.proofs.Common.{◌≡◌, take}
use Rattle.kr_order.specs.Answer.{answers_after}
use Rattle.order_board.proofs.asking.answers.Given as goal

abbrev pub invariant-loop-pair : goal.invariant-loop-pair
invariant-loop-pair g l = record {
  answers : l.answers ≡ answers_after l.state.history (take l.pair-index l.pairs);
  room : l.scratch ≡ l.initial.scratch;
}
