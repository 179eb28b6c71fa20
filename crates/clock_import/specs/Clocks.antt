-- Vector clocks: for each process how many of its events an event knows, which are itself and those before it.
use Rattle.std.specs.Prelude.{ℕ, ◌+◌, Bool, ◌&&◌, ◌||◌, ◌==◌, List, length, map, count_by}
use Rattle.std.specs.List.{range_with_len}
use Rattle.kr_order.specs.Order.{reach}
use Rattle.clock_import.specs.declared.log.LogLine.{LogLine}
use Rattle.clock_import.specs.declared.imported.Clocked.{Clocked}
use Rattle.clock_import.specs.Log.{line_at}
use Rattle.clock_import.specs.Pairs.{pairs_of_log}

-- the event at the index i knows the one at the index f
abbrev pub knows : List (ℕ × ℕ) → ℕ → ℕ → Bool
knows pairs i f = f == i || reach pairs (f + 1) (i + 1)

-- how many events of the process the event at the index i knows
abbrev pub component : List LogLine → ℕ → ℕ → ℕ
component lines i process =
    count_by (λ f. (line_at lines f).process == process && knows (pairs_of_log lines) i f) (range_with_len 0 (length lines))

-- its clock in a log of so many processes, whose numbers are from 1
abbrev pub clock_of : ℕ → List LogLine → ℕ → List ℕ
clock_of processes lines i = map (component lines i) (range_with_len 1 processes)

-- what is told of the event at the index i
abbrev pub clocked_of : ℕ → List LogLine → ℕ → Clocked
clocked_of processes lines i =
    record { process = (line_at lines i).process; clock = clock_of processes lines i }

-- and of all events
abbrev pub clocks_of_log : ℕ → List LogLine → List Clocked
clocks_of_log processes lines = map (clocked_of processes lines) (range_with_len 0 (length lines))
