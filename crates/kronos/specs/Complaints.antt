-- What is said on the error stream of an end that the output does not tell.
use Rattle.std.specs.Prelude.{ℕ, List, codes, Option, None, Some}
use Rattle.kronos_runs.specs.declared.exit.Exit.{Exit}
use Rattle.kronos_runs.specs.declared.exit.Exit.TheVariants.{Done, Usage, BadLine, TooLong, ReadFault, WriteFault, NoMemory, Cyclic}

abbrev pub complaint_of : Exit → Option (List ℕ)
complaint_of Done = None
complaint_of Usage = None
complaint_of (BadLine n) = None
complaint_of TooLong = Some (codes "the input has more than 1,048,576 bytes")
complaint_of ReadFault = Some (codes "the input could not be read")
complaint_of WriteFault = Some (codes "the output could not be written")
complaint_of NoMemory = Some (codes "out of memory")
complaint_of (Cyclic line) = None
