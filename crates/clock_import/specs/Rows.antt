-- Worked logs.
use Rattle.std.specs.Prelude.{ℕ, Bool, List, [], ◌∷◌, length, map}
use Rattle.std.specs.List.{range_with_len}
use Rattle.kr_order.specs.declared.ids.EventId.{EventId}
use Rattle.kr_order.specs.declared.answer.Answer.{Answer}
use Rattle.kr_order.specs.declared.history.Command.{Command}
use Rattle.kr_order.specs.declared.history.Command.TheVariants.{Assign}
use Rattle.kr_order.specs.Order.{reach}
use Rattle.kr_order.specs.Answer.{answer_to}
use Rattle.clock_import.specs.declared.log.Act.{Act}
use Rattle.clock_import.specs.declared.log.Act.TheVariants.{Local, Send, Receive}
use Rattle.clock_import.specs.declared.log.LogLine.{LogLine}
use Rattle.clock_import.specs.Log.{is_good}
use Rattle.clock_import.specs.Pairs.{pairs_to, pairs_of_log}
use Rattle.clock_import.specs.Clocks.{clocks_of_log}
use Rattle.clock_import.specs.Text.{import_text}
use Rattle.clock_import.specs.Commands.{must_of, commands_of, history_of}

abbrev entry : ℕ → Act → LogLine
entry process act = record { process = process; act = act }

abbrev as_events : ℕ × ℕ → EventId × EventId
as_events pair = (record { 0 = pair.0 }, record { 0 = pair.1 })

-- what is printed of a log without a cycle
abbrev pub text_of : ℕ → List LogLine → List ℕ
text_of processes lines =
    import_text (record { processes = processes; events = clocks_of_log processes lines; pairs = map as_events (pairs_of_log lines) })

-- whether each line may stand where it does
abbrev pub goods : List LogLine → List Bool
goods lines = map (is_good lines) (range_with_len 0 (length lines))

-- whether each of the first n events is before itself, by the pairs of these
abbrev pub turns : List LogLine → ℕ → List Bool
turns lines n = map (λ event. reach (pairs_to lines n) event event) (range_with_len 1 n)

-- the batch of these pairs, each a must
abbrev pub musts : List (ℕ × ℕ) → Command
musts pairs = Assign (map must_of pairs)

-- the answer to two events after the commands of the log
abbrev pub answered : List LogLine → ℕ → ℕ → Answer
answered lines a b = answer_to (history_of (commands_of lines)) a b

-- a message from one process to another
abbrev pub a_message : List LogLine
a_message = entry 1 (Send 1) ∷ entry 1 Local ∷ entry 2 (Receive 1) ∷ entry 2 Local ∷ []

-- two processes that receive before they send to each other
abbrev pub a_cycle : List LogLine
a_cycle = entry 1 (Receive 1) ∷ entry 1 (Send 2) ∷ entry 2 (Receive 2) ∷ entry 2 (Send 1) ∷ []

-- a message that is received and never sent
abbrev pub never_sent : List LogLine
never_sent = entry 1 (Receive 1) ∷ []
