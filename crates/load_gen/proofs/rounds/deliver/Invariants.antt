use Rattle.std.proofs.Common.{◌≡◌, ◌++◌}
use Rattle.load_gen.specs.Made.{deliveries}
use Rattle.load_gen.proofs.rounds.deliver.Given as goal

abbrev pub invariant-loop-k : goal.invariant-loop-k
invariant-loop-k l = l.events ≡ l.fn.events ++ deliveries l.sent l.k
