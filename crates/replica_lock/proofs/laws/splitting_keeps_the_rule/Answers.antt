use Rattle.replica_lock.proofs.KeepLemmas.{splitting_keeps}
use Rattle.replica_lock.proofs.laws.splitting_keeps_the_rule.Goals as goal

pub returns : goal.returns
returns g c = splitting_keeps g.T.Held.count_of g.T.Held.name_of
