use Rattle.std.proofs.Common.{arith}
use Rattle.replica_lock.proofs.SeatLemmas.{one_table}
use Rattle.replica_lock.proofs.KeepLemmas.{looking_keeps}
use Rattle.replica_lock.proofs.turn.Turn.counted.Goals as goal

pub load-requires : goal.load-requires
load-requires g c = (
  one_table _ _ _ _ c.seat.view_is c.self.view_is c.requires,
  omega (arith, c.self.invariant.0),
  looking_keeps g.T.Held.count_of g.T.Held.name_of c.self.inside.table.shared.key _ c.seat.inside.seat.id c.seat.inside.seat.me,
)
