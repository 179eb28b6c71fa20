use Rattle.std.proofs.Common.{refl, ◌∙◌}
use Rattle.kr_world.specs.World.{packet_at}
use Rattle.cluster_parts.specs.PartsStanding.{world_of}
use Rattle.cluster_sim.proofs.RefusalLemmas.{deliver_none, deliver_some, goes_within}
use Rattle.cluster_sim.proofs.refusals.deliver_refusal.Goals as goal

pub returns-in-None : goal.returns-in-None
returns-in-None c =
    let w = world_of c.args.parts.now in
    deliver_none w c.args.k (packet_at w c.args.k) c.in-None.ensures

pub arrival_refusal-requires : goal.arrival_refusal-requires
arrival_refusal-requires c =
    let w = world_of c.args.parts.now in
    goes_within c.args.parts.now.bag c.args.k (packet_at w c.args.k) c.in-Some.to c.requires refl c.in-Some.ensures

pub returns-in-Some : goal.returns-in-Some
returns-in-Some c =
    let w = world_of c.args.parts.now in
    c.arrival_refusal.ensures ∙ deliver_some w c.args.k (packet_at w c.args.k) c.in-Some.to c.in-Some.ensures
