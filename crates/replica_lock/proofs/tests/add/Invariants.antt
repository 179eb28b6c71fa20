use Rattle.std.proofs.Common.{◌≡◌, ◌+◌}
use Rattle.replica_lock.specs.Views.{IsIdle}
use Rattle.replica_lock.proofs.tests.add.Given as goal

abbrev pub invariant-loop : goal.invariant-loop
invariant-loop g l = record {
  idle : IsIdle l.turn.table l.seat;
  parts : l.seat.parts ≡ l.fn.seat.parts;
  gives : l.seat.gives ≡ l.fn.seat.gives + l.counter;
}
