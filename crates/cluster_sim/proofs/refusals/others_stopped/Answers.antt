use Rattle.std.proofs.Common.{◌≡◌, ◌<◌, ◌+◌, ℕ, Bool, true, false, ◌&&◌, ◌||◌, eqb, List, length, take, get_or, refl, sym, ap, ◌∙◌}
use Rattle.std.proofs.lemmas.Bool.{eq-eqb, ne_eqb}
use Rattle.std.proofs.lemmas.List.{take_more}
use Rattle.kr_order.specs.declared.ids.ServerId.{ServerId}
use Rattle.kr_protocol.specs.Manager.{members_but}
use Rattle.kr_world.specs.World.{World, is_stopped}
use Rattle.kr_world.specs.Step.{have_stopped}
use Rattle.cluster_parts.specs.PartsStanding.{world_of}
use Rattle.cluster_sim.proofs.ViewLemmas.{others_more}
use Rattle.cluster_sim.proofs.refusals.others_stopped.Goals as goal
use Rattle.cluster_sim.proofs.refusals.others_stopped.Goals.{then-all+then-member-id, then-all+else-member-id, else-all}

-- the next of them was looked at
one_more : (world : World) (chain : List ServerId) (id d : ServerId) (k : ℕ) (all now : Bool) → k < length chain → all ≡ have_stopped world (members_but (take k chain) id)
    → now ≡ (all && (eqb (get_or chain k d).0 id.0 || is_stopped world (get_or chain k d))) → now ≡ have_stopped world (members_but (take (k + 1) chain) id)
one_more world chain id d k all now lt is next =
    let one = get_or chain k d in
    next ∙ ap (λ b. b && (eqb one.0 id.0 || is_stopped world one)) is ∙ sym (others_more world (take k chain) one id) ∙ ap (λ l. have_stopped world (members_but l id)) (sym (take_more chain k d lt))

pub loop-member-preserved : goal.loop-member-preserved
loop-member-preserved c =
    let world = world_of c.args.parts.now in
    let chain = c.args.chain.now in
    let id = c.args.id in
    let none : ServerId = record { 0 = 0 } in
    let one = get_or chain c.loop-member.member-index none in
    let on = one_more world chain id none c.loop-member.member-index c.loop-member.all c.if-all.all c.loop-member-test.true c.loop-member.invariant in
    elim c.if-all.branch [
      | then-all+then-member-id w ↦
          let same : eqb one.0 id.0 ≡ true = eq-eqb one.0 id.0 w.if-member-id.true in
          on (w.all-is ∙ same ∙ sym (rw (w.if-all.true, same) refl))
      | then-all+else-member-id w ↦
          let other : eqb one.0 id.0 ≡ false = ne_eqb one.0 id.0 w.if-member-id.false in
          on (w.all-is ∙ w.is_stopped.ensures ∙ sym (rw (w.if-all.true, other) refl))
      | else-all w ↦ on (w.all-is ∙ sym (rw w.if-all.false refl))
    ]
