use Rattle.clock_import.proofs.LinkLemmas.{AreLinksTo}
use Rattle.clock_import.proofs.links.links_of.Given as goal

abbrev pub invariant-loop-i : goal.invariant-loop-i
invariant-loop-i l = AreLinksTo l.processes l.lines l.i l.seen.items l.links.items
