use Rattle.std.proofs.Common.{length}
use Rattle.kronos_runs.proofs.LogLemmas.{IsWrittenTo}
use Rattle.kronos_runs.proofs.imports.write_events.Given as goal

abbrev pub invariant-loop-rest : goal.invariant-loop-rest
invariant-loop-rest g l =
    IsWrittenTo l.events l.before l.rest (g.K.Sink.held l.fn.sink) (g.K.Sink.held l.sink) (g.K.Sink.faults l.fn.sink) (g.K.Sink.faults l.sink)

abbrev pub decreases-loop-rest : goal.decreases-loop-rest
decreases-loop-rest g l = length l.rest
