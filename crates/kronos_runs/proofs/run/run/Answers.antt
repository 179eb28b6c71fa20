use Rattle.std.proofs.Common.{◌++◌, sym, subst, refl}
use Rattle.std.specs.Prelude.{All}
use Rattle.script_lang.specs.Event.{IsEvent}
use Rattle.kr_world.specs.Lines.{end_lines}
use Rattle.kr_world.specs.Run.{text_of}
use Rattle.kr_world.specs.Sound.{HaveBegun}
use Rattle.kr_world.proofs.steps.CountLemmas.{none_begun}
use Rattle.cluster_sim.specs.ClusterStanding.{ClusterStanding}
use Rattle.kronos_runs.specs.Runs.{RanEvents, IsWritten}
use Rattle.kronos_runs.proofs.RunLemmas.{text_of-some, front_nothing, ended}
use Rattle.kronos_runs.proofs.run.run.Goals as goal

pub returns-in-Err : goal.returns-in-Err
returns-in-Err g c = (front_nothing (text_of c.args.script.now) (g.K.Sink.held c.args.sink.now) (text_of-some c.args.script.now), refl)

pub returns-in-Ok-run_events : goal.returns-in-Ok-run_events
returns-in-Ok-run_events g c =
    let held = g.K.Sink.held in
    let faults = g.K.Sink.faults in
    let last = c.run_events.new.cluster in
    let gathered = c.run_events.new.gathered.items in
    let ran = subst (λ events. RanEvents c.in-Ok.cluster events last gathered (held c.args.sink.now) (held c.run_events.new.sink)) c.as_slice.ensures c.in-Ok-run_events.ensures.0 in
    let wrote = subst (λ front. IsWritten (front ++ end_lines last.world.history) c.finish.result (held c.run_events.new.sink) (held c.finish.new.sink) (faults c.run_events.new.sink) (faults c.finish.new.sink)) c.as_slice-in-Ok-run_events.ensures.value c.finish.ensures in
    ended c.args.script.now c.in-Ok.cluster last c.finish.result gathered (held c.args.sink.now) (held c.run_events.new.sink) (held c.finish.new.sink) (faults c.args.sink.now) (faults c.run_events.new.sink) (faults c.finish.new.sink) c.in-Ok.ensures ran c.in-Ok-run_events.ensures.1 wrote

pub run_events-requires-clause-first : goal.run_events-requires-clause-first
run_events-requires-clause-first g c = λ lifetimes bounds.
    subst (λ (cluster : ClusterStanding). HaveBegun 0 cluster.world.clients) (sym c.in-Ok.ensures) (none_begun c.args.script.now.servers c.args.script.now.clients)

pub run_events-requires-clause-each : goal.run_events-requires-clause-each
run_events-requires-clause-each g c = λ lifetimes bounds. subst (All IsEvent) (sym c.as_slice.ensures) c.requires.fit.each
