use Rattle.std.proofs.Common.{◌≡◌, map, take}
use Rattle.kronos_runs.proofs.load.state_after.Given as goal

abbrev pub invariant-loop-done : goal.invariant-loop-done
invariant-loop-done l = l.state.history ≡ map (λ done. done.entry) (take l.done-index l.journal)
