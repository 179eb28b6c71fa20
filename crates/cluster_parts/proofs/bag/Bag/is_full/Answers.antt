use Rattle.cluster_parts.proofs.BagLemmas.{full_by_bytes}
use Rattle.cluster_parts.proofs.bag.Bag.is_full.Goals as goal

pub returns-else-len-ge-BAG_LIMIT : goal.returns-else-len-ge-BAG_LIMIT
returns-else-len-ge-BAG_LIMIT c =
    full_by_bytes c.self.inside.net c.self.inside.fresh c.args.self.now c.len.result c.bytes.result c.self.view_is c.len.ensures c.if-len-ge-BAG_LIMIT.false c.bytes.ensures.count c.bytes.ensures.spelt
