use Rattle.cluster_parts.proofs.BagLemmas.{numbered_so}
use Rattle.cluster_parts.proofs.bag.Bag.mark_lost.Goals as goal

pub mark_lost-requires : goal.mark_lost-requires
mark_lost-requires c = numbered_so c.self.inside.net c.self.inside.fresh c.args.self.now c.args.k c.self.view_is c.requires
