use Rattle.std.proofs.Common.{◌≡◌, ◌++◌, take}
use Rattle.kr_world.specs.Lines.{packet_lines}
use Rattle.cluster_parts.proofs.lines.put_packets.Given as goal

abbrev pub invariant-loop-i : goal.invariant-loop-i
invariant-loop-i l = l.out.items ≡ l.initial.out.items ++ packet_lines l.sent (take l.i l.packets)
