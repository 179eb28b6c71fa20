use Rattle.replica_lock.proofs.KeepLemmas.{joining_keeps}
use Rattle.replica_lock.proofs.laws.joining_keeps_the_rule.Goals as goal

pub returns : goal.returns
returns g c = joining_keeps g.T.Held.count_of g.T.Held.name_of
