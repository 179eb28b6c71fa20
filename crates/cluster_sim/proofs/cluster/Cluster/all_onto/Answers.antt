use Rattle.std.proofs.Common.{◌-◌, ◌^◌, ◌∷◌, [], take, sym, subst}
use Rattle.std.proofs.lemmas.List.Elements.{All-get_or, All-take}
use Rattle.script_lang.specs.Event.{IsEvent}
use Rattle.kr_world.specs.Round.{IsOfRound}
use Rattle.cluster_sim.specs.Steps.{DoesSteps}
use Rattle.cluster_sim.proofs.ClusterLemmas.{does_nothing, does_more, begun_still}
use Rattle.cluster_sim.proofs.cluster.Cluster.all_onto.Goals as goal

pub loop-event-init : goal.loop-event-init
loop-event-init g c = does_nothing c.args.self.now c.args.lines.now.items c.requires.whole

pub plain_onto-requires-clause-event : goal.plain_onto-requires-clause-event
plain_onto-requires-clause-event g c = λ lifetimes bounds.
    subst IsEvent (sym c.event-item.is) (All-get_or IsEvent c.args.events.now c.loop-event.event-index c.event-item.result c.loop-event-test.true c.requires.each)

pub plain_onto-requires-clause-few : goal.plain_onto-requires-clause-few
plain_onto-requires-clause-few g c = λ lifetimes bounds.
    let i = c.loop-event.event-index in
    begun_still (2 ^ 63 - 1) c.args.self.now c.loop-event.self (take i c.args.events.now) c.args.lines.now.items c.loop-event.lines.items c.loop-event.invariant (All-take IsOfRound i c.args.events.now c.requires.kinds) c.requires.few

pub loop-event-preserved : goal.loop-event-preserved
loop-event-preserved g c =
    let does = subst (λ e. DoesSteps c.loop-event.self (e ∷ []) c.loop-event.lines.items c.plain_onto.new.self c.plain_onto.new.lines.items) c.event-item.is c.in-Ok.ensures in
    does_more c.args.self.now c.loop-event.self c.plain_onto.new.self c.args.events.now c.loop-event.event-index c.event-item.result c.args.lines.now.items c.loop-event.lines.items c.plain_onto.new.lines.items c.loop-event-test.true c.loop-event.invariant does
