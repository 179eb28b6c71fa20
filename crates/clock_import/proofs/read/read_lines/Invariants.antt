use Rattle.std.proofs.Common.{◌-◌, length}
use Rattle.clock_import.proofs.ReadLemmas.{IsReading}
use Rattle.clock_import.proofs.read.read_lines.Given as goal

abbrev pub invariant-loop-rest : goal.invariant-loop-rest
invariant-loop-rest l = IsReading l.fn.bytes l.processes l.lines.items l.rest

abbrev pub decreases-loop-rest : goal.decreases-loop-rest
decreases-loop-rest l = 20000 - length l.lines.items
