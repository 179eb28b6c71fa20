-- The commands that make a log's events and bind its pairs.
use Rattle.std.specs.Prelude.{◌≡◌, ◌↔◌, ℕ, zero, suc, ◌+◌, ◌==◌, max, true, if◌then◌else◌, List, [], ◌∷◌, ◌++◌, length, map, replicate}
use Rattle.kr_order.specs.declared.answer.Answer.TheVariants.{Before}
use Rattle.kr_order.specs.declared.batch.Kind.TheVariants.{Must}
use Rattle.kr_order.specs.declared.batch.Pair.{Pair}
use Rattle.kr_order.specs.declared.history.Command.{Command}
use Rattle.kr_order.specs.declared.history.Command.TheVariants.{Create, Assign}
use Rattle.kr_order.specs.declared.history.Entry.{Entry}
use Rattle.kr_order.specs.Order.{reach}
use Rattle.kr_order.specs.Answer.{answer_to}
use Rattle.script_lang.specs.Number.{IsFromOneTo}
use Rattle.clock_import.specs.declared.log.LogLine.{LogLine}
use Rattle.clock_import.specs.declared.imported.Imported.{Imported}
use Rattle.clock_import.specs.Pairs.{event_pairs, numbered}

-- the pair as one that has to hold
abbrev pub must_of : ℕ × ℕ → Pair
must_of pair = record { first = record { 0 = pair.0 }; second = record { 0 = pair.1 }; kind = Must }

-- the batch of an event with these pairs; an event without any has none
abbrev pub batches_of : List (ℕ × ℕ) → List Command
batches_of [] = []
batches_of (pair ∷ more) = Assign (map must_of (pair ∷ more)) ∷ []

-- the batches of the first n events
abbrev pub batches_to : List LogLine → ℕ → List Command
batches_to lines zero = []
batches_to lines (suc n) = batches_to lines n ++ batches_of (event_pairs lines n)

-- all commands of a log: its events are made, and then bound event by event
abbrev pub commands_of : List LogLine → List Command
commands_of lines = replicate (length lines) Create ++ batches_to lines (length lines)

-- the history of the commands of one client, of which the first has this number
abbrev pub entries_from : ℕ → List Command → List Entry
entries_from seq [] = []
entries_from seq (command ∷ more) =
    record { client = record { 0 = 1 }; seq = seq; command = command } ∷ entries_from (seq + 1) more

abbrev pub history_of : List Command → List Entry
history_of commands = entries_from 1 commands

-- after the commands the answer to two of so many events is that the one is before the other exactly where the pairs
-- lead from it there
abbrev pub AnswerAs : List Command → ℕ → List (ℕ × ℕ) → Type 0
AnswerAs commands events pairs =
    (a b : ℕ) → IsFromOneTo events a → IsFromOneTo events b →
    (answer_to (history_of commands) a b ≡ Before) ↔ (reach pairs a b ≡ true)

-- the same of what is told of a log
abbrev pub AnswerAsTold : List Command → Imported → Type 0
AnswerAsTold commands imported = AnswerAs commands (length imported.events) (numbered imported.pairs)

-- the event that a pair came with: the one of its two that stands below
abbrev pub below_of : ℕ × ℕ → ℕ
below_of pair = max pair.0 pair.1

-- the batches of pairs that stand event by event, of each event one or two
abbrev pub batches_over : List (ℕ × ℕ) → List Command
batches_over [] = []
batches_over (pair ∷ []) = Assign (must_of pair ∷ []) ∷ []
batches_over (pair ∷ other ∷ more) =
    if below_of other == below_of pair then Assign (must_of pair ∷ must_of other ∷ []) ∷ batches_over more
    else Assign (must_of pair ∷ []) ∷ batches_over (other ∷ more)
