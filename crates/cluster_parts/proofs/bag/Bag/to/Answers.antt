use Rattle.std.proofs.Common.{◌≡◌, ◌-◌, subst}
use Rattle.std.specs.Prelude.{slice_get}
use Rattle.std.specs.Option.{option_map}
use Rattle.kr_order.specs.declared.message.Packet.{Packet}
use Rattle.cluster_parts.specs.BagStanding.{BagStanding}
use Rattle.cluster_parts.proofs.BagLemmas.{goes_to}
use Rattle.cluster_parts.proofs.bag.Bag.to.Goals as goal

pub returns : goal.returns
returns c =
    subst (λ (b : BagStanding). c.to.result ≡ option_map (λ (packet : Packet). packet.to) (slice_get b.packets (c.args.k - 1))) c.self.view_is (goes_to c.self.inside.net c.args.k c.to.result c.requires c.to.ensures)
