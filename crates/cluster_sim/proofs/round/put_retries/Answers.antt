use Rattle.std.proofs.Common.{◌++◌, sym, ap, ◌∙◌}
use Rattle.std.specs.Prelude.{flat_map}
use Rattle.std.specs.declared.vec.Vec.{Vec}
use Rattle.std.specs.declared.alloc.Global.{Global}
use Rattle.std.proofs.lemmas.List.{append-nil}
use Rattle.kr_order.specs.Numbers.{numbers_to}
use Rattle.script_lang.specs.declared.script.Event.{Event}
use Rattle.kr_world.specs.Round.{learnt_retry_of}
use Rattle.kr_world.proofs.rounds.RoundLoopLemmas.{given_more}
use Rattle.cluster_parts.specs.PartsStanding.{world_of}
use Rattle.cluster_parts.proofs.LinesLemmas.{written_more}
use Rattle.cluster_sim.proofs.round.put_retries.Goals as goal
use Rattle.cluster_sim.proofs.round.put_retries.Goals.{in-Some+in_ok-push-in-Some, in-None}

pub loop-i-preserved : goal.loop-i-preserved
loop-i-preserved c =
    let f = learnt_retry_of (world_of c.args.parts.now) in
    let front = flat_map f (numbers_to c.loop-i.i) in
    let more = given_more f c.loop-i.i in
    elim c.match-retry_of.branch [
      | in-Some+in_ok-push-in-Some w ↦
          ap (λ (v : Vec Event Global). v.items) w.events-is ∙ written_more _ _ _ _ _ _ c.loop-i.invariant w.in_ok-push-in-Some.ensures.items (sym more ∙ ap (λ es. front ++ es) (sym w.in-Some.ensures))
      | in-None w ↦
          ap (λ (v : Vec Event Global). v.items) w.events-is ∙ c.loop-i.invariant ∙ ap (λ es. c.args.events.now.items ++ es) (sym (append-nil front) ∙ ap (λ es. front ++ es) w.in-None.ensures ∙ more)
    ]
