use Rattle.std.proofs.Common.{length, arith}
use Rattle.kr_order.specs.declared.message.Packet.{Packet}
use Rattle.kr_wire.specs.Reading.{packet_in}
use Rattle.kr_wire.specs.Taking.{packet_takes}
use Rattle.kr_wire.proofs.DecodeLemmas.{packet_in_takes, decoded, refused, refused_none, refused_nowhere, refused_at, lacks_nothing, lacks_only}
use Rattle.kr_wire.proofs.packets.decode.Goals as goal

pub returns-in-Ok-clause-reads : goal.returns-in-Ok-clause-reads
returns-in-Ok-clause-reads c = packet_in_takes c.args.bytes.now c.in-Ok.packet (λ i. omega (arith, c.type_inv.bytes i)) c.in-Ok.ensures

pub returns-in-Ok-clause-only : goal.returns-in-Ok-clause-only
returns-in-Ok-clause-only c = decoded c.args.bytes.now c.in-Ok.packet c.in-Ok.ensures

pub returns-in-Err-clause-reads : goal.returns-in-Err-clause-reads
returns-in-Err-clause-reads c = refused (packet_takes c.args.bytes.now) (length c.args.bytes.now) c.args.bytes.now c.in-Err.stop c.refused.result c.in-Err.ensures c.refused.ensures

pub returns-in-Err-clause-only : goal.returns-in-Err-clause-only
returns-in-Err-clause-only c = refused_none (packet_takes c.args.bytes.now) (length c.args.bytes.now) c.args.bytes.now c.in-Err.stop c.refused.result c.in-Err.ensures c.refused.ensures

pub returns-in-Ok-clause-place : goal.returns-in-Ok-clause-place
returns-in-Ok-clause-place c = refused_nowhere (length c.args.bytes.now) (packet_in c.args.bytes.now) c.in-Ok.packet c.in-Ok.packet c.in-Ok.ensures

pub returns-in-Err-clause-place : goal.returns-in-Err-clause-place
returns-in-Err-clause-place c = refused_at Packet (packet_takes c.args.bytes.now) (length c.args.bytes.now) (packet_in c.args.bytes.now) c.in-Err.stop c.refused.result c.in-Err.ensures c.refused.ensures

pub returns-in-Ok-clause-memory : goal.returns-in-Ok-clause-memory
returns-in-Ok-clause-memory c = lacks_nothing (packet_takes c.args.bytes.now) c.in-Ok.packet

pub returns-in-Err-clause-memory : goal.returns-in-Err-clause-memory
returns-in-Err-clause-memory c = lacks_only Packet (packet_takes c.args.bytes.now) (length c.args.bytes.now) (packet_in c.args.bytes.now) c.in-Err.stop c.refused.result c.in-Err.ensures c.refused.ensures
