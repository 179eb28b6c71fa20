-- What is told of a log: its events with their clocks, and its pairs; or the first line that closes a cycle.
use Rattle.std.specs.Prelude.{◌≡◌, ℕ, ◌+◌, ◌<◌, ◌≤◌, List, length, Result, Ok, Err}
use Rattle.kr_order.specs.Order.{IsAcyclic}
use Rattle.clock_import.specs.declared.log.LogLine.{LogLine}
use Rattle.clock_import.specs.declared.imported.Imported.{Imported}
use Rattle.clock_import.specs.declared.bring.ImportStop.{ImportStop}
use Rattle.clock_import.specs.declared.bring.ImportStop.TheVariants as stop
use Rattle.clock_import.specs.Log.{IsLog, Parses}
use Rattle.clock_import.specs.Reading.{IsBadLine}
use Rattle.clock_import.specs.Pairs.{pairs_of_log, pairs_to, numbered}
use Rattle.clock_import.specs.Clocks.{clocks_of_log}

-- this is told of the log, which has no cycle
pub record TellsOf (lines : List LogLine) (imported : Imported) : Type 0 where
  pub fit : IsLog imported.processes lines
  pub acyclic : IsAcyclic (pairs_of_log lines)
  pub events : imported.events ≡ clocks_of_log imported.processes lines
  pub pairs : numbered imported.pairs ≡ pairs_of_log lines

-- this is told of some log
pub record IsImported (imported : Imported) : Type 0 where
  pub lines : List LogLine
  pub tells : TellsOf lines imported

-- this is told of the log that the bytes spell
pub record IsImportOf (bytes : List ℕ) (imported : Imported) : Type 0 where
  pub lines : List LogLine
  pub parses : Parses bytes imported.processes lines
  pub tells : TellsOf lines imported

-- the pairs of the event close a cycle with those of the events above it, which have none
pub record ClosesCycle (lines : List LogLine) (event : ℕ) : Type 0 where
  pub within : event ≤ length lines
  pub closes : IsAcyclic (pairs_to lines event) → ⊥
  pub earlier : (m : ℕ) → m < event → IsAcyclic (pairs_to lines m)

-- the bytes spell a log, and line n, counted from 1, is the first whose pairs close a cycle
pub record IsCyclicAt (bytes : List ℕ) (n : ℕ) : Type 0 where
  pub processes : ℕ
  pub lines : List LogLine
  pub parses : Parses bytes processes lines
  pub event : ℕ
  pub number : n ≡ event + 1
  pub cycle : ClosesCycle lines event

-- what an import answers
abbrev pub Imports : List ℕ → Result Imported ImportStop → Type 0
Imports bytes (Ok imported) = IsImportOf bytes imported
Imports bytes (Err (stop.BadLine n)) = IsBadLine bytes n
Imports bytes (Err (stop.Cyclic n)) = IsCyclicAt bytes n
Imports bytes (Err stop.NoMemory) = Unit {0}

-- this is told of a log of so many processes
pub record IsBrought (processes : ℕ) (lines : List LogLine) (imported : Imported) : Type 0 where
  pub processes_are : imported.processes ≡ processes
  pub tells : TellsOf lines imported

-- or its cycle is
pub record IsClosed (lines : List LogLine) (n : ℕ) : Type 0 where
  pub event : ℕ
  pub number : n ≡ event + 1
  pub cycle : ClosesCycle lines event

-- what is answered of a log
abbrev pub Brings : ℕ → List LogLine → Result Imported ImportStop → Type 0
Brings processes lines (Ok imported) = IsBrought processes lines imported
Brings processes lines (Err (stop.BadLine n)) = ⊥
Brings processes lines (Err (stop.Cyclic n)) = IsClosed lines n
Brings processes lines (Err stop.NoMemory) = Unit {0}
