use Rattle.std.proofs.Common.{◌≡◌, ◌+◌, All, length}
use Rattle.replica_lock.specs.Views.{fresh_seat}
use Rattle.replica_lock.proofs.tests.row_of.Given as goal

abbrev pub invariant-loop-seat : goal.invariant-loop-seat
invariant-loop-seat l = record {
  table : l.seats.table ≡ l.fn.seats.table;
  name : l.seats.name ≡ l.fn.seats.name;
  all : length l.row.items + l.seats.left ≡ l.fn.seats.left;
  fresh : All (λ seat. seat ≡ fresh_seat l.fn.seats.table l.fn.seats.name) l.row.items;
}

abbrev pub decreases-loop-seat : goal.decreases-loop-seat
decreases-loop-seat l = l.seats.left
