use Rattle.replica_lock.proofs.KeepLemmas.{counting_keeps}
use Rattle.replica_lock.proofs.laws.counting_keeps_the_rule.Goals as goal

pub returns : goal.returns
returns g c = counting_keeps g.T.Held.count_of g.T.Held.name_of
