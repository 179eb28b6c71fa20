use Rattle.cluster_parts.proofs.LinesLemmas.{written_more, packet_lines-at}
use Rattle.cluster_parts.proofs.lines.put_packets.Goals as goal

pub loop-i-preserved : goal.loop-i-preserved
loop-i-preserved c =
    written_more _ _ _ _ _ _ c.loop-i.invariant c.in_ok-put_packet.ensures (packet_lines-at c.args.sent c.loop-i.i c.args.packets.now c.index-packets-i.result c.loop-i-test.true c.index-packets-i.is)
