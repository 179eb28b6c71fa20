use Rattle.std.proofs.Common.{◌≡◌, ◌+◌}
use Rattle.replica_lock.specs.Views.{IsIdle}
use Rattle.uses_order.proofs.turn.create.Given as goal

abbrev pub invariant-loop-done : goal.invariant-loop-done
invariant-loop-done g l = record {
  idle : IsIdle l.turn.table l.seat;
  parts : l.seat.parts ≡ l.fn.seat.parts;
  gives : l.seat.gives ≡ l.fn.seat.gives + l.done;
}
