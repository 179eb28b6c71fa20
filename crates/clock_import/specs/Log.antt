-- Logs of processes: what their lines are, how they are spelt, and which of them may stand in a log.
use Rattle.std.specs.Prelude.{◌≡◌, ℕ, ◌<◌, ◌≤◌, Bool, true, false, ◌&&◌, ◌==◌, List, ◌++◌, length, slice_index_or, flat_map, All, codes}
use Rattle.std.specs.Prelude.{Option, None, Some, is_some}
use Rattle.std.specs.List.{position_from}
use Rattle.std.specs.Fmt.{decimal}
use Rattle.script_lang.specs.Line.{line}
use Rattle.script_lang.specs.Number.{IsFromOneTo}
use Rattle.clock_import.specs.declared.log.Act.{Act}
use Rattle.clock_import.specs.declared.log.Act.TheVariants.{Local, Send, Receive, Bad}
use Rattle.clock_import.specs.declared.log.LogLine.{LogLine}

-- the greatest number of a message
abbrev pub most_message : ℕ
most_message = 18446744073709551615

-- an act that a line may have, whatever stands around it
abbrev pub IsAct : Act → Type 0
IsAct Local = Unit {0}
IsAct (Send message) = IsFromOneTo most_message message
IsAct (Receive message) = IsFromOneTo most_message message
IsAct Bad = ⊥

-- a line of a log of so many processes, whatever stands around it
pub record IsLine (processes : ℕ) (entry : LogLine) : Type 0 where
  pub process : IsFromOneTo processes entry.process
  pub act : IsAct entry.act

-- its words, without the end
abbrev pub words_of : ℕ → Act → List ℕ
words_of process Local = codes "local " ++ decimal process
words_of process (Send message) = codes "send " ++ (decimal process ++ codes " " ++ decimal message)
words_of process (Receive message) = codes "receive " ++ (decimal process ++ codes " " ++ decimal message)
words_of process Bad = codes "bad"

abbrev pub line_text : LogLine → List ℕ
line_text entry = words_of entry.process entry.act

-- the act sends the message
abbrev pub sends : ℕ → Act → Bool
sends message Local = false
sends message (Send other) = other == message
sends message (Receive other) = false
sends message Bad = false

-- the act receives it
abbrev pub receives : ℕ → Act → Bool
receives message Local = false
receives message (Send other) = false
receives message (Receive other) = other == message
receives message Bad = false

-- the index, from 0, of the first line that sends the message, or receives it
abbrev pub first_send : List LogLine → ℕ → Option ℕ
first_send lines message = position_from (λ entry. sends message entry.act) 0 lines

abbrev pub first_receive : List LogLine → ℕ → Option ℕ
first_receive lines message = position_from (λ entry. receives message entry.act) 0 lines

-- the line at an index from 0; behind the last there is none, which is a bad one
abbrev pub line_at : List LogLine → ℕ → LogLine
line_at lines i = slice_index_or lines i (record { process = 0; act = Bad })

-- the index is this one
abbrev pub is_at : Option ℕ → ℕ → Bool
is_at None i = false
is_at (Some j) i = j == i

-- the line at the index i may have this act, where these are all lines: a send where no earlier line sends its
-- message, and a receive where no earlier line receives its message and some line sends it
abbrev pub is_allowed : List LogLine → ℕ → Act → Bool
is_allowed lines i Local = true
is_allowed lines i (Send message) = is_at (first_send lines message) i
is_allowed lines i (Receive message) = is_at (first_receive lines message) i && is_some (first_send lines message)
is_allowed lines i Bad = false

-- the line at the index may stand there
abbrev pub is_good : List LogLine → ℕ → Bool
is_good lines i = is_allowed lines i (line_at lines i).act

-- the lines after the first one are those of a log of so many processes
pub record IsLog (processes : ℕ) (lines : List LogLine) : Type 0 where
  pub processes_fit : IsFromOneTo 64 processes
  pub few : length lines ≤ 20000
  pub each : All (IsLine processes) lines
  pub good : (i : ℕ) → i < length lines → is_good lines i ≡ true

-- the first line
abbrev pub first_line : ℕ → List ℕ
first_line processes = line (codes "processes " ++ decimal processes)

-- how the log is spelt
abbrev pub log_bytes : ℕ → List LogLine → List ℕ
log_bytes processes lines = first_line processes ++ flat_map (λ entry. line (line_text entry)) lines

-- the bytes are the one spelling of the log
pub record Parses (bytes : List ℕ) (processes : ℕ) (lines : List LogLine) : Type 0 where
  pub fit : IsLog processes lines
  pub spelt : bytes ≡ log_bytes processes lines
