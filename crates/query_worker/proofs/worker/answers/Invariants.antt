use Rattle.std.proofs.Common.{◌≡◌, ◌+◌, take}
use Rattle.kr_order.specs.Answer.{answers_after}
use Rattle.reach.specs.Search.{numbered}
use Rattle.query_worker.specs.Known.{AreAnswers, KnowsAlso, IsWithin}
use Rattle.query_worker.proofs.worker.answers.Given as goal

abbrev pub invariant-loop-pair : goal.invariant-loop-pair
invariant-loop-pair g l = record {
  answers : l.answers ≡ answers_after (g.A.Asks.history l.order) (take l.pair-index l.pairs);
  known : AreAnswers (g.A.Asks.history l.order) l.known;
  pairs : KnowsAlso (numbered (take l.pair-index l.pairs)) l.initial.known l.known;
  most : IsWithin (g.A.Asks.held l.order + g.A.Asks.pairs_held l.order) l.initial.known l.known l.initial.steps l.steps;
  room : l.scratch ≡ l.initial.scratch;
}
