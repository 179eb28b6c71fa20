use Rattle.std.proofs.Common.{◌≡◌}
use Rattle.std.specs.Prelude.{replicate}
use Rattle.kr_order.specs.declared.history.Command.TheVariants.{Create}
use Rattle.clock_import.proofs.commands.creates.Given as goal

abbrev pub invariant-loop : goal.invariant-loop
invariant-loop l = l.commands ≡ replicate l.counter Create
