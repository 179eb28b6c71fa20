use Rattle.std.proofs.Common.{◌≡◌}
use Rattle.std.specs.Prelude.{map}
use Rattle.std.specs.List.{range_with_len}
use Rattle.clock_import.specs.Joins.{joined_at}
use Rattle.clock_import.proofs.clocks.joined.Given as goal

abbrev pub invariant-loop-i : goal.invariant-loop-i
invariant-loop-i l = l.clock.items ≡ map (joined_at l.process l.link l.events) (range_with_len 1 l.i)
