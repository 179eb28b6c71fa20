use Rattle.std.proofs.Common.{subst}
use Rattle.std.specs.Prelude.{All}
use Rattle.kr_wire.specs.Valid.{IsPacket}
use Rattle.kr_world.specs.Step.{act}
use Rattle.cluster_parts.specs.PartsStanding.{world_of}
use Rattle.cluster_sim.proofs.step.act.Goals as goal

pub deliver-requires-clause-fit : goal.deliver-requires-clause-fit
deliver-requires-clause-fit g c =
    subst (λ event. All IsPacket (act (world_of c.args.parts.now) event).after.bag) c.in-Deliver.is c.requires.fit
