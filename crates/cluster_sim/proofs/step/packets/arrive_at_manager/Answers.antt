use Rattle.std.proofs.Common.{◌≡◌}
use Rattle.kr_order.specs.declared.message.Node.TheVariants.{Server}
use Rattle.kr_order.specs.declared.message.Message.TheVariants.{Joined}
use Rattle.cluster_parts.specs.PartsStanding.{world_of}
use Rattle.cluster_sim.proofs.FitLemmas.{joined_fits}
use Rattle.cluster_sim.proofs.step.packets.arrive_at_manager.Goals as goal

pub promote-requires-clause-fit : goal.promote-requires-clause-fit
promote-requires-clause-fit c =
    let packet = c.args.packet.now in
    let from = c.in-Server-Joined.from in
    let joiner = c.in-Server-Joined.joiner in
    let goes : packet.from ≡ Server from = cc in
    let says : packet.message ≡ Joined joiner = cc in
    joined_fits (world_of c.args.parts.now) packet.from packet.message from joiner goes says c.requires.fit
