use Rattle.kronos_runs.proofs.RunLemmas.{IsPartWay}
use Rattle.kronos_runs.proofs.run.run_events.Given as goal

abbrev pub invariant-loop-event : goal.invariant-loop-event
invariant-loop-event g l =
    IsPartWay l.fn.cluster l.events l.event-index l.cluster l.gathered.items (g.K.Sink.held l.fn.sink) (g.K.Sink.held l.sink) (g.K.Sink.faults l.fn.sink) (g.K.Sink.faults l.sink)
