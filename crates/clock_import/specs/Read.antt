-- What the parts of the reader answer.
use Rattle.std.specs.Prelude.{◌≡◌, ◌⊎◌, ℕ, ◌≤◌, List, ◌++◌, length, flat_map, map, All, codes, Result, Ok, Err}
use Rattle.std.specs.Fmt.{decimal}
use Rattle.script_lang.specs.Line.{line, HasNoEnd}
use Rattle.script_lang.specs.Number.{IsFromOneTo}
use Rattle.clock_import.specs.declared.log.LogLine.{LogLine}
use Rattle.clock_import.specs.declared.read.Log.{Log}
use Rattle.clock_import.specs.declared.bring.ImportStop.{ImportStop}
use Rattle.clock_import.specs.declared.bring.ImportStop.TheVariants as stop
use Rattle.clock_import.specs.Log.{Parses, first_line}
use Rattle.clock_import.specs.Reading.{ReadLine, IsReadLine, IsBadLine}
use Rattle.clock_import.specs.Messages.{TellsFirsts}

-- the bytes are the first line of a log, and then the rest
pub record ReadsFirst (bytes : List ℕ) (processes : ℕ) (rest : List ℕ) : Type 0 where
  pub fit : IsFromOneTo 64 processes
  pub whole : bytes ≡ first_line processes ++ rest

-- the bytes are lines of which each is read, and then the rest
pub record IsReadFrom (bytes : List ℕ) (processes : ℕ) (lines : List LogLine) (rest : List ℕ) : Type 0 where
  pub reads : List ReadLine
  pub each : All (IsReadLine processes) reads
  pub lines_are : lines ≡ map (λ read. read.entry) reads
  pub whole : bytes ≡ flat_map (λ read. line read.text) reads ++ rest
  pub few : length lines ≤ 20000
  pub ends : HasNoEnd rest ⊎ (length lines ≡ 20000)

-- two numbers with a space between them
abbrev pub both_words : ℕ × ℕ → List ℕ
both_words pair = decimal pair.0 ++ codes " " ++ decimal pair.1

-- the log was read of the bytes
pub record IsReadLog (bytes : List ℕ) (log : Log) : Type 0 where
  pub parses : Parses bytes log.processes log.lines.items
  pub messages : TellsFirsts log.lines.items log.messages

-- what the reader answers
abbrev pub ReadsLog : List ℕ → Result Log ImportStop → Type 0
ReadsLog bytes (Ok log) = IsReadLog bytes log
ReadsLog bytes (Err (stop.BadLine n)) = IsBadLine bytes n
ReadsLog bytes (Err (stop.Cyclic n)) = ⊥
ReadsLog bytes (Err stop.NoMemory) = Unit {0}
