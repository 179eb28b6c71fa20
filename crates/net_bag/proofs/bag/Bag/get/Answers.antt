use Rattle.std.proofs.Common.{◌-◌}
use Rattle.net_bag.proofs.KeptLemmas.{spelling_fits}
use Rattle.net_bag.proofs.bag.Bag.get.Goals as goal

pub returns-clause-spelt : goal.returns-clause-spelt
returns-clause-spelt c =
    spelling_fits (λ v. v.now) c.get.result c.self.inside.spellings (c.args.k - 1) c.self.invariant.each c.get.ensures
