use Rattle.std.proofs.Common.{◌≡◌, take}
use Rattle.kr_protocol.specs.Manager.{members_but}
use Rattle.kr_world.specs.Step.{have_stopped}
use Rattle.cluster_parts.specs.PartsStanding.{world_of}
use Rattle.cluster_sim.proofs.refusals.others_stopped.Given as goal

abbrev pub invariant-loop-member : goal.invariant-loop-member
invariant-loop-member l = l.all ≡ have_stopped (world_of l.parts) (members_but (take l.member-index l.chain) l.id)
