use Rattle.replica_lock.proofs.KeepLemmas.{one_holds}
use Rattle.replica_lock.proofs.laws.one_seat_holds_the_turn.Goals as goal

pub returns : goal.returns
returns g c = one_holds g.T.Held.count_of g.T.Held.name_of
