use Rattle.std.proofs.Common.{take}
use Rattle.cluster_parts.specs.BagStanding.{HasPackets}
use Rattle.cluster_parts.proofs.bag.spell_all.Given as goal

abbrev pub invariant-loop-packet : goal.invariant-loop-packet
invariant-loop-packet l = HasPackets l.initial.net l.net (take l.packet-index l.packets)
