use Rattle.std.proofs.Common.{◌≡◌, ◌≤◌}
use Rattle.replica_lock.proofs.turn.Turn.take.Given as goal

abbrev pub invariant-loop : goal.invariant-loop
invariant-loop g l = record {
  seat : l.seat ≡ record l.initial.seat { empties = l.seat.empties };
  empties : l.initial.seat.empties ≤ l.seat.empties;
}
