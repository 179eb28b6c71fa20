use Rattle.std.proofs.Common.{◌≡◌}
use Rattle.kr_order.specs.Prefix.{IsPrefix}
use Rattle.live_chain.proofs.reader.Teller.ask.Given as goal

abbrev pub invariant-loop : goal.invariant-loop
invariant-loop g l = record {
  same : l.self ≡ record l.initial.self { reader = l.self.reader };
  copies : l.self.reader.copies ≡ l.initial.self.reader.copies;
  known : IsPrefix l.initial.self.reader.list l.self.reader.list;
}
