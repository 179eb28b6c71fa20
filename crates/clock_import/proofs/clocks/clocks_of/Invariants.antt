use Rattle.clock_import.proofs.ClockLemmas.{AreClocked}
use Rattle.clock_import.proofs.clocks.clocks_of.Given as goal

abbrev pub invariant-loop-e : goal.invariant-loop-e
invariant-loop-e l = AreClocked l.processes l.lines l.order l.e-index l.events.items
