use Rattle.std.proofs.Common.{◌≡◌, ◌≤◌, take}
use Rattle.live_chain.specs.Lawful.{queries_of}
use Rattle.live_chain.specs.Tellers.{HasAnswered, IsSameTeller}
use Rattle.live_chain.proofs.reader.Teller.answer_all.Given as goal

abbrev pub invariant-loop-query : goal.invariant-loop-query
invariant-loop-query g l = record {
  same : IsSameTeller l.initial.self l.self;
  number : l.self.number ≤ l.query-index;
  answered : HasAnswered (queries_of l.initial.self.node (take l.query-index l.query-items)) l.self;
}
