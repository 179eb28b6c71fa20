use Rattle.cluster_parts.proofs.BagLemmas.{numbered_so}
use Rattle.cluster_parts.proofs.bag.Bag.mark_delivered.Goals as goal

pub mark_delivered-requires : goal.mark_delivered-requires
mark_delivered-requires c = numbered_so c.self.inside.net c.self.inside.fresh c.args.self.now c.args.k c.self.view_is c.requires
