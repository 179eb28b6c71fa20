use Rattle.cluster_parts.proofs.BagLemmas.{numbered_so}
use Rattle.cluster_parts.proofs.bag.Bag.is_lost.Goals as goal

pub is_lost-requires : goal.is_lost-requires
is_lost-requires c = numbered_so c.self.inside.net c.self.inside.fresh c.args.self.now c.args.k c.self.view_is c.requires
