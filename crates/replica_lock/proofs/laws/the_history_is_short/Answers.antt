use Rattle.replica_lock.proofs.KeepLemmas.{short}
use Rattle.replica_lock.proofs.laws.the_history_is_short.Goals as goal

pub returns : goal.returns
returns g c = short g.T.Held.count_of g.T.Held.name_of
