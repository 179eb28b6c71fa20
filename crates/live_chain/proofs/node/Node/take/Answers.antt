use Rattle.std.proofs.Common.{◌+◌, refl, ap}
use Rattle.live_chain.proofs.NodeLemmas.{node_takes}
use Rattle.live_chain.proofs.node.Node.take.Goals as goal

pub returns-clause-ok : goal.returns-clause-ok
returns-clause-ok g c =
    node_takes c.args.self.now _ c.args.entry c.in_ok-copy.copy (c.count-place.result + 1) c.in_ok-reply.reply c.reserve.new.self.items c.requires.popped
    c.requires.few refl refl (ap (λ w. w.list) c.in_ok-reply.ensures.list) c.in_ok-reserve.ensures.items c.push_reserved.ensures.items
    (ap (λ n. n + 1) c.count-place.ensures) c.in_ok-reply.ensures.reply c.in_ok-copy.ensures c.pass_on.ensures c.push_reserved-2.ensures.sent.0
    c.push_reserved-2.ensures.sent.1
