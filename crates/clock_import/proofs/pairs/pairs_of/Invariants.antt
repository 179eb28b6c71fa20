use Rattle.std.proofs.Common.{◌≡◌}
use Rattle.clock_import.specs.Pairs.{numbered, pairs_to}
use Rattle.clock_import.proofs.pairs.pairs_of.Given as goal

abbrev pub invariant-loop-i : goal.invariant-loop-i
invariant-loop-i l = numbered l.pairs ≡ pairs_to l.lines l.i
