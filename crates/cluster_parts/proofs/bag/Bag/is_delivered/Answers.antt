use Rattle.cluster_parts.proofs.BagLemmas.{numbered_so}
use Rattle.cluster_parts.proofs.bag.Bag.is_delivered.Goals as goal

pub is_delivered-requires : goal.is_delivered-requires
is_delivered-requires c = numbered_so c.self.inside.net c.self.inside.fresh c.args.self.now c.args.k c.self.view_is c.requires
