use Rattle.std.proofs.Common.{refl, sym, subst}
use Rattle.kr_world.specs.World.{packet_at}
use Rattle.kr_world.specs.Step.{loses}
use Rattle.cluster_parts.specs.PartsStanding.{world_of}
use Rattle.cluster_sim.specs.Parts.{Makes}
use Rattle.cluster_sim.proofs.PartsLemmas.{lost_there, lost_makes}
use Rattle.cluster_sim.proofs.step.packets.lose.Goals as goal

pub mark_lost-requires : goal.mark_lost-requires
mark_lost-requires c =
    lost_there c.args.parts.now c.args.k (packet_at (world_of c.args.parts.now) c.args.k) c.requires.first refl c.requires.free

pub returns : goal.returns
returns c =
    let parts = c.args.parts.now in
    let bag = c.mark_lost.new.self in
    subst (λ noting. Makes (loses (world_of parts) c.args.k) parts.bag.before (record parts { bag = bag }) noting) (sym c.nothing.ensures) (lost_makes parts bag c.args.k c.requires.whole c.mark_lost.ensures)
