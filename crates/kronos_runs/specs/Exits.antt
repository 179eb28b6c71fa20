-- The statuses of the program.
use Rattle.std.specs.Prelude.{ℕ}
use Rattle.kronos_runs.specs.declared.exit.Exit.{Exit}
use Rattle.kronos_runs.specs.declared.exit.Exit.TheVariants.{Done, Usage, BadLine, TooLong, ReadFault, WriteFault, NoMemory, Cyclic}

abbrev pub status_of : Exit → ℕ
status_of Done = 0
status_of Usage = 2
status_of (BadLine n) = 3
status_of TooLong = 4
status_of ReadFault = 5
status_of WriteFault = 6
status_of NoMemory = 7
status_of (Cyclic line) = 10
