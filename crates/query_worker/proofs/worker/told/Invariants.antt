use Rattle.std.proofs.Common.{◌≡◌, ◌≤◌, ◌+◌, take, map}
use Rattle.query_worker.specs.Known.{AreAnswers, KnowsAlso, IsWithin}
use Rattle.query_worker.specs.Told.{told_after, pairs_asked}
use Rattle.query_worker.proofs.worker.told.Given as goal

abbrev pub invariant-loop-query : goal.invariant-loop-query
invariant-loop-query g l = record {
  told : l.told.items ≡ map (told_after (g.A.Asks.history l.order)) (take l.query-index l.queries);
  fits : g.A.Asks.cells l.order ≤ l.scratch;
  known : AreAnswers (g.A.Asks.history l.order) l.known;
  pairs : KnowsAlso (pairs_asked (take l.query-index l.queries)) l.initial.known l.known;
  most : IsWithin (g.A.Asks.held l.order + g.A.Asks.pairs_held l.order) l.initial.known l.known l.initial.steps l.steps;
}
