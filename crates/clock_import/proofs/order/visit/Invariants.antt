use Rattle.std.proofs.Common.{◌+◌, ◌*◌, length}
use Rattle.clock_import.proofs.WalkLemmas.{IsVisiting, untaken}
use Rattle.clock_import.proofs.order.visit.Given as goal

abbrev pub invariant-loop-top : goal.invariant-loop-top
invariant-loop-top l =
    IsVisiting l.links l.e l.initial.done l.done l.taken l.order.items l.stack.items

abbrev pub decreases-loop-top : goal.decreases-loop-top
decreases-loop-top l = 2 * untaken l.taken + length l.stack.items
