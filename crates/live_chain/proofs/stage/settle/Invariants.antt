use Rattle.std.proofs.Common.{◌≡◌}
use Rattle.kr_order.specs.Prefix.{IsPrefix}
use Rattle.live_chain.proofs.stage.settle.Given as goal

abbrev pub invariant-loop : goal.invariant-loop
invariant-loop g l = record {
  copies : l.reader.copies ≡ l.initial.reader.copies;
  own : IsPrefix l.initial.reader.list l.reader.list;
}
