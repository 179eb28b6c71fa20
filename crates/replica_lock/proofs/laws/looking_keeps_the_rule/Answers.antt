use Rattle.replica_lock.proofs.KeepLemmas.{looking_keeps}
use Rattle.replica_lock.proofs.laws.looking_keeps_the_rule.Goals as goal

pub returns : goal.returns
returns g c = looking_keeps g.T.Held.count_of g.T.Held.name_of
