use Rattle.std.proofs.Common.{sym, subst}
use Rattle.std.specs.Prelude.{map}
use Rattle.cluster_parts.specs.BagStanding.{packet_of, IsFresh}
use Rattle.cluster_parts.proofs.BagLemmas.{none_fresh, begun_so}
use Rattle.cluster_parts.proofs.bag.Bag.begin.Goals as goal

pub invariant_of-self : goal.invariant_of-self
invariant_of-self c =
    let packets = map packet_of c.self.inside.net.spellings in
    subst (IsFresh packets) (sym c.new.ensures) (none_fresh packets)

pub returns : goal.returns
returns c = begun_so c.self.inside.net c.self.inside.fresh c.new.result c.args.self.now c.self.view_is c.new.ensures
