use Rattle.std.proofs.Common.{[], ◌∷◌, ◌+◌, ◌++◌, sym, ap, ◌∙◌}
use Rattle.std.specs.declared.vec.Vec.{Vec}
use Rattle.std.specs.declared.alloc.Global.{Global}
use Rattle.script_lang.specs.declared.script.Event.{Event}
use Rattle.script_lang.specs.declared.script.Event.TheVariants.{Deliver}
use Rattle.kr_world.specs.Round.{is_under_way}
use Rattle.kr_world.proofs.rounds.RoundLoopLemmas.{kept_more, left_out}
use Rattle.cluster_parts.specs.PartsStanding.{world_of}
use Rattle.cluster_sim.proofs.RoundLemmas.{none_delivered}
use Rattle.cluster_sim.proofs.round.deliveries.Goals as goal
use Rattle.cluster_sim.proofs.round.deliveries.Goals.{then-is_under_way+in_ok-push, else-is_under_way}

pub loop-i-init : goal.loop-i-init
loop-i-init c =
    c.new-events.ensures.items ∙ sym (none_delivered (world_of c.args.parts.now) c.args.from c.requires)

pub loop-i-preserved : goal.loop-i-preserved
loop-i-preserved c =
    let goes = is_under_way (world_of c.args.parts.now) in
    let i = c.loop-i.i in
    elim c.if-is_under_way.branch [
      | then-is_under_way+in_ok-push w ↦
          ap (λ (v : Vec Event Global). v.items) w.events-is ∙ w.in_ok-push.ensures.items ∙ ap (λ es. es ++ Deliver (i + 1) ∷ []) c.loop-i.invariant ∙ kept_more Deliver goes i (sym c.is_under_way.ensures ∙ w.if-is_under_way.true)
      | else-is_under_way w ↦
          ap (λ (v : Vec Event Global). v.items) w.events-is ∙ c.loop-i.invariant ∙ left_out Deliver goes i (sym c.is_under_way.ensures ∙ w.if-is_under_way.false)
    ]
