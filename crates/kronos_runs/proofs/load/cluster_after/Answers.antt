use Rattle.std.proofs.Common.{◌≡◌, ◌<◌, ◌≤◌, length, get_or, sym, ap, ◌∙◌, subst, arith}
use Rattle.std.specs.Prelude.{All}
use Rattle.std.proofs.lemmas.List.Elements.{All-get_or}
use Rattle.script_lang.specs.Event.{IsEvent}
use Rattle.kr_world.specs.Round.{plain_events}
use Rattle.cluster_sim.specs.Steps.{after_steps}
use Rattle.kronos_runs.proofs.LoadLemmas.{first_underway, befores_counted, next_underway, last_underway}
use Rattle.kronos_runs.proofs.load.cluster_after.Goals as goal

pub loop-event-init : goal.loop-event-init
loop-event-init g c = first_underway c.args.script.now c.in_ok-cluster.cluster c.requires.steps c.in_ok-cluster.ensures

pub loop-event-preserved : goal.loop-event-preserved
loop-event-preserved g c =
    let script = c.args.script.now in
    let i = c.loop-event.event-index in
    let old = c.loop-event.cluster in
    let event = c.event-item.result in
    let few = befores_counted script c.befores_are_few.ensures c.requires.fit c.requires.steps c.requires.few in
    let within : i < length script.events = omega (arith, ap length c.as_slice-events.ensures) in
    let item : event ≡ get_or script.events i event = c.event-item.is ∙ ap (λ events. get_or events i event) c.as_slice-events.ensures in
    next_underway script i old c.step_onto.new.self event c.requires.steps few within c.loop-event.invariant (c.in_ok-step_onto.ensures.stepped ∙ ap (λ e. after_steps old (plain_events old.world e)) item)

pub returns : goal.returns
returns g c =
    let script = c.args.script.now in
    let past : length script.events ≤ c.loop-event.event-index = omega (arith, ap length c.as_slice-events.ensures) in
    last_underway script c.loop-event.event-index c.loop-event.cluster past c.loop-event.invariant

pub step_onto-requires-clause-event : goal.step_onto-requires-clause-event
step_onto-requires-clause-event g c = λ lifetimes bounds.
    let each = subst (All IsEvent) (sym c.as_slice-events.ensures) c.requires.fit.each in
    subst IsEvent (sym c.event-item.is) (All-get_or IsEvent c.as_slice-events.result.now c.loop-event.event-index c.event-item.result c.loop-event-test.true each)
