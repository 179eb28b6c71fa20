use Rattle.std.proofs.Common.{◌≡◌, ◌++◌, sym, ap, ◌∙◌, subst}
use Rattle.std.specs.Prelude.{map, All}
use Rattle.kr_wire.specs.Valid.{IsPacket}
use Rattle.cluster_parts.specs.BagStanding.{BagStanding, packet_of, IsFresh, IsSent, HasPackets}
use Rattle.cluster_parts.proofs.BagLemmas.{seen, none_fresh, more_fresh, sent_so}
use Rattle.cluster_parts.proofs.bag.Bag.send_all.Goals as goal

pub spell_all-requires : goal.spell_all-requires
spell_all-requires c = subst (All IsPacket) (sym c.as_slice.ensures) c.requires

pub invariant_of-self : goal.invariant_of-self
invariant_of-self c =
    let packets = map packet_of c.spell_all.new.net.spellings in
    subst (IsFresh packets) (sym (c.replace-fresh.ensures.after ∙ c.new.ensures)) (none_fresh packets)

pub invariant_of-self-in_err-append : goal.invariant_of-self-in_err-append
invariant_of-self-in_err-append c =
    let packets = map packet_of c.spell_all.new.net.spellings in
    subst (IsFresh packets) (sym (c.replace-fresh.ensures.after ∙ c.new.ensures)) (none_fresh packets)

pub invariant_of-self-2 : goal.invariant_of-self-2
invariant_of-self-2 c =
    let old = c.self.inside.net in
    let new = c.spell_all.new.net in
    let packets = c.args.packets in
    let has : HasPackets old new packets = subst (HasPackets old new) c.as_slice.ensures c.in_ok-spell_all.ensures in
    let fresh : c.append.new.self ≡ c.self.inside.fresh ++ packets = c.in_ok-append.ensures.ok ∙ ap (λ f. f ++ packets) c.replace-fresh.ensures.value in
    subst (IsFresh (map packet_of new.spellings)) (sym fresh) (more_fresh old new c.self.inside.fresh packets has c.requires c.self.invariant)

pub returns : goal.returns
returns c =
    let old = c.self.inside.net in
    let new = c.spell_all.new.net in
    let packets = c.args.packets in
    let has : HasPackets old new packets = subst (HasPackets old new) c.as_slice.ensures c.in_ok-spell_all.ensures in
    let fresh : c.append.new.self ≡ c.self.inside.fresh ++ packets = c.in_ok-append.ensures.ok ∙ ap (λ f. f ++ packets) c.replace-fresh.ensures.value in
    let its : IsSent c.args.self.now (seen new (c.self.inside.fresh ++ packets)) packets = subst (λ (b : BagStanding). IsSent b (seen new (c.self.inside.fresh ++ packets)) packets) c.self.view_is (sent_so old new c.self.inside.fresh packets has c.requires c.self.invariant) in
    subst (λ f. IsSent c.args.self.now (seen new f) packets) (sym fresh) its
