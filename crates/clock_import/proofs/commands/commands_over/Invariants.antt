use Rattle.std.proofs.Common.{◌≡◌, ◌++◌, length}
use Rattle.std.specs.Prelude.{replicate}
use Rattle.kr_order.specs.declared.history.Command.TheVariants.{Create}
use Rattle.clock_import.specs.Pairs.{numbered}
use Rattle.clock_import.specs.Commands.{batches_over}
use Rattle.clock_import.proofs.commands.commands_over.Given as goal

abbrev pub invariant-loop-rest : goal.invariant-loop-rest
invariant-loop-rest l =
    l.commands ++ batches_over (numbered l.rest) ≡ replicate l.events Create ++ batches_over (numbered l.pairs)

abbrev pub decreases-loop-rest : goal.decreases-loop-rest
decreases-loop-rest l = length l.rest
