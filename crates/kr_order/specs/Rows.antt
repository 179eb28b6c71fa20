-- Worked histories: the commands of one client, and what it is told.
use Rattle.std.specs.Prelude.{ℕ, ◌+◌, List, [], ◌∷◌, ◌++◌, map, flat_map, replicate}
use Rattle.kr_order.specs.declared.batch.Kind.TheVariants.{Must, Prefer}
use Rattle.kr_order.specs.declared.batch.Pair.{Pair}
use Rattle.kr_order.specs.declared.history.Command.{Command}
use Rattle.kr_order.specs.declared.history.Command.TheVariants.{Create, Assign, Acquire, Release}
use Rattle.kr_order.specs.declared.history.Entry.{Entry}
use Rattle.kr_order.specs.Held.{held_events, held_pairs}
use Rattle.kr_order.specs.Done.{done_of}
use Rattle.kr_order.specs.Answer.{answer_to}
use Rattle.kr_order.specs.Text.{reply_text, answer_word}

-- the next event
abbrev pub create : Command
create = Create

-- a batch of these pairs
abbrev pub assign : List Pair → Command
assign pairs = Assign pairs

-- one reference more to the event
abbrev pub acquire : ℕ → Command
acquire event = Acquire (record { 0 = event })

-- one reference less to the event
abbrev pub release : ℕ → Command
release event = Release (record { 0 = event })

-- a before b, which must be
abbrev pub must : ℕ → ℕ → Pair
must a b = record { first = record { 0 = a }; second = record { 0 = b }; kind = Must }

-- a before b, if it may be
abbrev pub prefer : ℕ → ℕ → Pair
prefer a b = record { first = record { 0 = a }; second = record { 0 = b }; kind = Prefer }

-- each of these events before the one made next after it, which must be
abbrev pub each_before_next : List ℕ → List Pair
each_before_next events = map (λ event. must event (event + 1)) events

-- 30 events, and two batches that make one chain of them: pairs of neighbours, and then a pair between each two pairs
abbrev pub chain_of_30 : List Command
chain_of_30 =
    replicate 30 create
    ++ assign (each_before_next (1 ∷ 3 ∷ 5 ∷ 7 ∷ 9 ∷ 11 ∷ 13 ∷ 15 ∷ 17 ∷ 19 ∷ 21 ∷ 23 ∷ 25 ∷ 27 ∷ 29 ∷ []))
    ∷ assign (each_before_next (2 ∷ 4 ∷ 6 ∷ 8 ∷ 10 ∷ 12 ∷ 14 ∷ 16 ∷ 18 ∷ 20 ∷ 22 ∷ 24 ∷ 26 ∷ 28 ∷ []))
    ∷ []

-- events 1, 2 and 3 in a chain, and then 2 is dead
abbrev pub dead_on_the_way : List Command
dead_on_the_way = create ∷ create ∷ create ∷ assign (must 1 2 ∷ must 2 3 ∷ []) ∷ release 2 ∷ []

-- the commands as entries of client 1, the first of which has this sequence number
abbrev pub entries_from : ℕ → List Command → List Entry
entries_from seq [] = []
entries_from seq (command ∷ more) = record { client = record { 0 = 1 }; seq = seq; command = command } ∷ entries_from (seq + 1) more

-- the texts of the replies to the commands of a client that is alone
abbrev pub replies_of : List Command → List (List ℕ)
replies_of commands = map (λ done. reply_text done.reply) (done_of (entries_from 1 commands))

-- the answer to two events after these commands, in a word
abbrev pub answer_after : List Command → ℕ → ℕ → List ℕ
answer_after commands a b = answer_word (answer_to (entries_from 1 commands) a b)

-- the held events after these commands
abbrev pub held_after : List Command → List ℕ
held_after commands = held_events (entries_from 1 commands)

-- the held pairs after these commands
abbrev pub held_pairs_after : List Command → List (ℕ × ℕ)
held_pairs_after commands = held_pairs (entries_from 1 commands)

-- the text n times
abbrev pub repeated : ℕ → List ℕ → List ℕ
repeated n text = flat_map (λ one. one) (replicate n text)
