use Rattle.std.proofs.Common.{◌≡◌, ◌≤◌, ◌-◌, [], All, vec_len, vec_capacity}
use Rattle.replica_lock.specs.Rule.{standing_for}
use Rattle.replica_lock.specs.Views.{fresh_seat}
use Rattle.replica_lock.proofs.making.seat_all.Given as goal

abbrev pub invariant-loop-rest : goal.invariant-loop-rest
invariant-loop-rest g l = record {
  table : l.rest.table_id ≡ l.fn.rest.table_id;
  rest : l.rest.me ≡ (standing_for l.fn.rest.me.0.name (l.fn.count - vec_len l.room), []);
  fresh : All (λ seat. seat ≡ fresh_seat l.fn.rest.table_id l.fn.rest.me.0.name) l.room.items;
  room : vec_capacity l.room ≡ vec_capacity l.fn.room;
  few : vec_len l.room ≤ l.others;
}

abbrev pub decreases-loop-rest : goal.decreases-loop-rest
decreases-loop-rest g l = l.others - vec_len l.room
