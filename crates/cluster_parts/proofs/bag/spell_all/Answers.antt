use Rattle.std.proofs.Common.{sym, subst}
use Rattle.std.proofs.lemmas.List.Elements.{All-get_or}
use Rattle.kr_wire.specs.Valid.{IsPacket}
use Rattle.cluster_parts.proofs.BagLemmas.{has_none, has_more}
use Rattle.cluster_parts.proofs.bag.spell_all.Goals as goal

pub loop-packet-init : goal.loop-packet-init
loop-packet-init c = has_none c.args.net.now

pub send-requires : goal.send-requires
send-requires c =
    subst IsPacket (sym c.packet-item.is) (All-get_or IsPacket c.args.packets.now c.loop-packet.packet-index c.packet-item.result c.loop-packet-test.true c.requires)

pub loop-packet-preserved : goal.loop-packet-preserved
loop-packet-preserved c =
    has_more c.args.net.now c.loop-packet.net c.send.new.self c.args.packets.now c.loop-packet.packet-index c.packet-item.result c.loop-packet-test.true c.packet-item.is c.loop-packet.invariant c.in_ok-send.ensures.ok
