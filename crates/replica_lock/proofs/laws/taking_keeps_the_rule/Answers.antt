use Rattle.replica_lock.proofs.KeepLemmas.{taking_keeps}
use Rattle.replica_lock.proofs.laws.taking_keeps_the_rule.Goals as goal

pub returns : goal.returns
returns g c = taking_keeps g.T.Held.count_of g.T.Held.name_of
