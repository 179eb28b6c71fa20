use Rattle.replica_lock.proofs.KeepLemmas.{giving_keeps}
use Rattle.replica_lock.proofs.laws.giving_keeps_the_rule.Goals as goal

pub returns : goal.returns
returns g c = giving_keeps g.T.Held.count_of g.T.Held.name_of
