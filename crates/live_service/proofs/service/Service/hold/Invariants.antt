use Rattle.std.proofs.Common.{◌≡◌, ◌≤◌}
use Rattle.kr_order.specs.Prefix.{IsPrefix}
use Rattle.live_service.proofs.service.Service.hold.Given as goal

abbrev pub invariant-loop : goal.invariant-loop
invariant-loop g l = record {
  seat : l.seat ≡ record l.initial.seat { empties = l.seat.empties; seen = l.seat.seen };
  empties : l.initial.seat.empties ≤ l.seat.empties;
  reader : l.reader ≡ record l.initial.reader { list = l.reader.list };
  own : IsPrefix l.initial.reader.list l.reader.list;
}
