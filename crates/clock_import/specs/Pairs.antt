-- The pairs of a log. The line at the index i, from 0, is event i + 1.
use Rattle.std.specs.Prelude.{ℕ, zero, suc, ◌+◌, Bool, ◌&&◌, ◌==◌, nat_lt, if◌then◌else◌, List, [], ◌∷◌, ◌++◌, length, reverse, take}
use Rattle.std.specs.Prelude.{map, Option, None, Some}
use Rattle.kr_order.specs.declared.ids.EventId.{EventId}
use Rattle.clock_import.specs.declared.log.Act.{Act}
use Rattle.clock_import.specs.declared.log.Act.TheVariants.{Local, Send, Receive, Bad}
use Rattle.clock_import.specs.declared.log.LogLine.{LogLine}
use Rattle.clock_import.specs.Log.{line_at, first_send, first_receive}

-- the index of the last line of the process among these, of which the newest comes first
abbrev pub latest : ℕ → List LogLine → Option ℕ
latest process [] = None
latest process (entry ∷ older) = if entry.process == process then Some (length older) else latest process older

-- the index of the last line of the process before the index i
abbrev pub latest_before : List LogLine → ℕ → ℕ → Option ℕ
latest_before lines i process = latest process (reverse (take i lines))

-- the line before this one of its process
abbrev pub prior_of : List LogLine → ℕ → Option ℕ
prior_of lines i = latest_before lines i (line_at lines i).process

-- the pair of this line and the one before it of its process
abbrev pub own_pair : ℕ → Option ℕ → Option (ℕ × ℕ)
own_pair i None = None
own_pair i (Some f) = Some (f + 1, i + 1)

-- the pair of a send that stands above this receive
abbrev pub sent_pair : ℕ → Option ℕ → Option (ℕ × ℕ)
sent_pair i None = None
sent_pair i (Some s) = if nat_lt s i then Some (s + 1, i + 1) else None

-- the pair of a receive that stands above this send
abbrev pub received_pair : ℕ → Option ℕ → Option (ℕ × ℕ)
received_pair i None = None
received_pair i (Some r) = if nat_lt r i then Some (i + 1, r + 1) else None

-- the pair of the message, at the one of its two lines that stands below
abbrev pub message_pair : List LogLine → ℕ → Act → Option (ℕ × ℕ)
message_pair lines i Local = None
message_pair lines i (Send message) = received_pair i (first_receive lines message)
message_pair lines i (Receive message) = sent_pair i (first_send lines message)
message_pair lines i Bad = None

-- the pairs are one
abbrev pub is_pair : ℕ × ℕ → ℕ × ℕ → Bool
is_pair pair other = other.0 == pair.0 && other.1 == pair.1

-- the first pair and the other, which is left out where it is the first again
abbrev pub one_or_both : Option (ℕ × ℕ) → Option (ℕ × ℕ) → List (ℕ × ℕ)
one_or_both None None = []
one_or_both None (Some other) = other ∷ []
one_or_both (Some pair) None = pair ∷ []
one_or_both (Some pair) (Some other) = if is_pair pair other then pair ∷ [] else pair ∷ other ∷ []

-- the pairs of the event at the index, in order
abbrev pub event_pairs : List LogLine → ℕ → List (ℕ × ℕ)
event_pairs lines i = one_or_both (own_pair i (prior_of lines i)) (message_pair lines i (line_at lines i).act)

-- the pairs of the first n events
abbrev pub pairs_to : List LogLine → ℕ → List (ℕ × ℕ)
pairs_to lines zero = []
pairs_to lines (suc n) = pairs_to lines n ++ event_pairs lines n

-- all pairs
abbrev pub pairs_of_log : List LogLine → List (ℕ × ℕ)
pairs_of_log lines = pairs_to lines (length lines)

-- a pair of events, as the pair of their numbers
abbrev pub numbers : EventId × EventId → ℕ × ℕ
numbers pair = (pair.0.0, pair.1.0)

abbrev pub numbered : List (EventId × EventId) → List (ℕ × ℕ)
numbered pairs = map numbers pairs
