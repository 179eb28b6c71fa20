use Rattle.std.proofs.Common.{◌≡◌, ◌+◌, All}
use Rattle.replica_lock.specs.Views.{IsIdle, parts_of_all, gives_of_all}
use Rattle.replica_lock.proofs.turn.Turn.join_all.Given as goal

abbrev pub invariant-loop-seat : goal.invariant-loop-seat
invariant-loop-seat g l = record {
  idle : IsIdle l.self.table l.whole;
  others : All (IsIdle l.self.table) l.seats.items;
  parts : l.whole.parts + parts_of_all l.seats.items ≡ parts_of_all l.fn.seats.items;
  gives : l.whole.gives + gives_of_all l.seats.items ≡ gives_of_all l.fn.seats.items;
}

abbrev pub decreases-loop-seat : goal.decreases-loop-seat
decreases-loop-seat g l = goal.left-loop-seat g l
