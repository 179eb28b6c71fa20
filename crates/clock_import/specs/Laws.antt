-- The statements of the laws.
use Rattle.std.specs.Prelude.{◌≡◌, ◌↔◌, ℕ, ◌+◌, ◌<◌, ◌≤◌, true, List, length, slice_index}
use Rattle.kr_order.specs.Order.{reach, IsAcyclic}
use Rattle.clock_import.specs.declared.log.LogLine.{LogLine}
use Rattle.clock_import.specs.Log.{IsLog, Parses}
use Rattle.clock_import.specs.Reading.{IsBadLine}
use Rattle.clock_import.specs.Pairs.{pairs_of_log}
use Rattle.clock_import.specs.Clocks.{clock_of}
use Rattle.clock_import.specs.Imported.{IsCyclicAt}
use Rattle.clock_import.specs.Text.{IsTextOf}
use Rattle.clock_import.specs.Commands.{commands_of, AnswerAs}

-- of two events the one is before the other exactly where its clock is at most the other's in every place
abbrev pub ClocksSayWhatIsBefore : Type 0
ClocksSayWhatIsBefore =
    (processes : ℕ) (lines : List LogLine) → IsLog processes lines →
    (a b : ℕ) → a < length lines → b < length lines → (a ≡ b → ⊥) →
    (reach (pairs_of_log lines) (a + 1) (b + 1) ≡ true)
    ↔ ((p : ℕ) → p < processes → slice_index (clock_of processes lines a) p ≤ slice_index (clock_of processes lines b) p)

-- bytes with a bad line spell no log
abbrev pub BadLinesAreInNoLog : Type 0
BadLinesAreInNoLog =
    (bytes : List ℕ) (n processes : ℕ) (lines : List LogLine) → IsBadLine bytes n → Parses bytes processes lines → ⊥

-- there is one first bad line
abbrev pub TheBadLineIsOne : Type 0
TheBadLineIsOne = (bytes : List ℕ) (m n : ℕ) → IsBadLine bytes m → IsBadLine bytes n → m ≡ n

-- bytes spell at most one log
abbrev pub ASpellingIsOfOneLog : Type 0
ASpellingIsOfOneLog =
    (bytes : List ℕ) (processes : ℕ) (lines : List LogLine) (processes' : ℕ) (lines' : List LogLine) →
    Parses bytes processes lines → Parses bytes processes' lines' → (processes ≡ processes') × (lines ≡ lines')

-- there is one line whose pairs are the first to close a cycle
abbrev pub TheCyclicLineIsOne : Type 0
TheCyclicLineIsOne = (bytes : List ℕ) (m n : ℕ) → IsCyclicAt bytes m → IsCyclicAt bytes n → m ≡ n

-- a log with such a line has no import
abbrev pub CyclesAreInNoImport : Type 0
CyclesAreInNoImport = (bytes text : List ℕ) (n : ℕ) → IsCyclicAt bytes n → IsTextOf bytes text → ⊥

-- the import of a log has one text
abbrev pub TheTextIsOne : Type 0
TheTextIsOne = (bytes text text' : List ℕ) → IsTextOf bytes text → IsTextOf bytes text' → text ≡ text'

-- after the commands of a log without a cycle the answers are those of its pairs
abbrev pub CommandsGiveTheOrder : Type 0
CommandsGiveTheOrder =
    (processes : ℕ) (lines : List LogLine) → IsLog processes lines → IsAcyclic (pairs_of_log lines) →
    AnswerAs (commands_of lines) (length lines) (pairs_of_log lines)
