use Rattle.std.proofs.Common.{sym, subst}
use Rattle.std.proofs.lemmas.List.Elements.{All-get_or}
use Rattle.script_lang.specs.Event.{IsEvent}
use Rattle.kronos_runs.specs.Runs.{DoesTurn}
use Rattle.kronos_runs.proofs.RunLemmas.{one_further, step_stopped}
use Rattle.kronos_runs.proofs.run.run_events.Goals as goal

pub returns-in-Err : goal.returns-in-Err
returns-in-Err g c =
    let held = g.K.Sink.held in
    let faults = g.K.Sink.faults in
    step_stopped (Unit {0}) (Unit {0}) c.in-Err.stop c.args.cluster.now c.args.events.now c.loop-event.event-index c.loop-event.cluster c.turn.new.cluster c.loop-event.gathered.items c.turn.new.gathered.items c.event-item.result (held c.args.sink.now) (held c.loop-event.sink) (held c.turn.new.sink) (faults c.args.sink.now) (faults c.loop-event.sink) (faults c.turn.new.sink) c.loop-event-test.true c.event-item.is c.loop-event.invariant c.in-Err.ensures

pub loop-event-preserved : goal.loop-event-preserved
loop-event-preserved g c =
    let held = g.K.Sink.held in
    let faults = g.K.Sink.faults in
    let turn = subst (λ e. DoesTurn c.loop-event.cluster e c.loop-event.gathered.items c.turn.new.cluster c.turn.new.gathered.items (held c.loop-event.sink) (held c.turn.new.sink)) c.event-item.is c.in-Ok.ensures.0 in
    one_further c.args.cluster.now c.args.events.now c.loop-event.event-index c.loop-event.cluster c.turn.new.cluster c.loop-event.gathered.items c.turn.new.gathered.items c.event-item.result (held c.args.sink.now) (held c.loop-event.sink) (held c.turn.new.sink) (faults c.args.sink.now) (faults c.loop-event.sink) (faults c.turn.new.sink) c.loop-event-test.true c.loop-event.invariant turn c.in-Ok.ensures.1

pub turn-requires-clause-event : goal.turn-requires-clause-event
turn-requires-clause-event g c = λ lifetimes bounds.
    subst IsEvent (sym c.event-item.is) (All-get_or IsEvent c.args.events.now c.loop-event.event-index c.event-item.result c.loop-event-test.true c.requires.each)
