use Rattle.std.proofs.Common.{length}
use Rattle.clock_import.proofs.WalkLemmas.{IsOrdering}
use Rattle.clock_import.proofs.order.order_over.Given as goal

abbrev pub invariant-loop-e : goal.invariant-loop-e
invariant-loop-e l = IsOrdering l.links (length l.initial.done) l.e l.done l.taken l.order.items
