use Rattle.std.proofs.Common.{◌-◌}
use Rattle.clock_import.proofs.WalkLemmas.{IsBetween}
use Rattle.clock_import.proofs.order.first_closing.Given as goal

abbrev pub invariant-loop-low : goal.invariant-loop-low
invariant-loop-low l = IsBetween l.links l.many l.low l.high

abbrev pub decreases-loop-low : goal.decreases-loop-low
decreases-loop-low l = l.high - l.low
