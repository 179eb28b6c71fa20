use Rattle.std.proofs.Common.{◌≡◌, take}
use Rattle.std.specs.Prelude.{map}
use Rattle.clock_import.proofs.ClockLemmas.{bare}
use Rattle.clock_import.proofs.clocks.without_clocks.Given as goal

abbrev pub invariant-loop-entry : goal.invariant-loop-entry
invariant-loop-entry l = l.events.items ≡ map bare (take l.entry-index l.lines)
