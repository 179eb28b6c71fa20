use Rattle.kronos_runs.proofs.LoadLemmas.{IsUnderway}
use Rattle.kronos_runs.proofs.load.cluster_after.Given as goal

abbrev pub invariant-loop-event : goal.invariant-loop-event
invariant-loop-event g l = IsUnderway l.script l.event-index l.cluster
