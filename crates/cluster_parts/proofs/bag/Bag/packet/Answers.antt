use Rattle.std.proofs.Common.{◌≡◌, ◌-◌, subst}
use Rattle.std.specs.Prelude.{slice_get, Some}
use Rattle.cluster_parts.specs.BagStanding.{BagStanding}
use Rattle.cluster_parts.proofs.BagLemmas.{decoded_there}
use Rattle.cluster_parts.proofs.bag.Bag.packet.Goals as goal

pub returns-in-Ok : goal.returns-in-Ok
returns-in-Ok c =
    let read = c.in-Ok.ensures.reads in
    subst (λ (b : BagStanding). slice_get b.packets (c.args.k - 1) ≡ Some c.in-Ok.packet) c.self.view_is (decoded_there c.self.inside.net c.args.k c.in-Some.bytes.now c.in-Ok.packet c.requires.first c.in-Some.ensures.value read.0 read.1)
