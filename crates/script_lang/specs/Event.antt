-- The lines of a script that give its events.
use Rattle.std.specs.Prelude.{ℕ, ◌≤◌, List, [], ◌++◌, length, All, flat_map, codes, Option, None, Some}
use Rattle.std.specs.Fmt.{decimal}
use Rattle.kr_order.specs.declared.ids.EventId.{EventId}
use Rattle.kr_order.specs.declared.ids.ClientId.{ClientId}
use Rattle.kr_order.specs.declared.ids.ServerId.{ServerId}
use Rattle.kr_order.specs.declared.batch.Pair.{Pair}
use Rattle.kr_order.specs.declared.history.Command.{Command}
use Rattle.kr_order.specs.declared.history.Command.TheVariants.{Create, Assign, Acquire, Release}
use Rattle.kr_order.specs.Text.{command_word, command_words, asked_word}
use Rattle.script_lang.specs.declared.script.Event.{Event}
use Rattle.script_lang.specs.declared.script.Event.TheVariants.{Call, Query, Retry, Deliver, Lose, Tick, Work, Stop, Notice, Show, Join}
use Rattle.script_lang.specs.declared.script.Event.TheVariants.{Round, Learn}
use Rattle.script_lang.specs.Number.{IsFromOneTo}

-- a number of a client, a server or a packet, as a line may give it
abbrev pub IsNumber : ℕ → Type 0
IsNumber n = IsFromOneTo 4294967295 n

-- a number of an event, as a line may give it
abbrev pub IsEventNumber : ℕ → Type 0
IsEventNumber n = IsFromOneTo 18446744073709551615 n

-- a pair of a batch
pub record IsPair (pair : Pair) : Type 0 where
  pub first : IsEventNumber pair.first.0
  pub second : IsEventNumber pair.second.0

-- a pair of a query
pub record IsAskedPair (pair : EventId × EventId) : Type 0 where
  pub first : IsEventNumber pair.0.0
  pub second : IsEventNumber pair.1.0

-- pairs that one line may give
pub record ArePairs {pair : Type 0} (Fits : pair → Type 0) (pairs : List pair) : Type 0 where
  pub most : length pairs ≤ 32
  pub each : All Fits pairs

-- a command that some line gives
abbrev pub IsCommand : Command → Type 0
IsCommand Create = Unit {0}
IsCommand (Assign batch) = ArePairs IsPair batch
IsCommand (Acquire event) = IsEventNumber event.0
IsCommand (Release event) = IsEventNumber event.0

-- a command that a client begins by some line
pub record IsCall (client : ClientId) (command : Command) : Type 0 where
  pub client_fits : IsNumber client.0
  pub command_fits : IsCommand command

-- a query that some line asks
pub record IsQuery (client : ClientId) (server : ServerId) (pairs : List (EventId × EventId)) : Type 0 where
  pub client_fits : IsNumber client.0
  pub server_fits : IsNumber server.0
  pub some : 1 ≤ length pairs
  pub pairs_fit : ArePairs IsAskedPair pairs

-- a call that some line sends again
pub record IsRetry (client : ClientId) (server : ServerId) : Type 0 where
  pub client_fits : IsNumber client.0
  pub server_fits : IsNumber server.0

-- a server that some line ticks, or the manager, which is none
abbrev pub IsTicked : Option ServerId → Type 0
IsTicked None = Unit {0}
IsTicked (Some server) = IsNumber server.0

-- work that some line gives a server
pub record IsWork (server : ServerId) (workers : ℕ) : Type 0 where
  pub server_fits : IsNumber server.0
  pub workers_fit : IsFromOneTo 8 workers

-- an event that some line gives
abbrev pub IsEvent : Event → Type 0
IsEvent (Call client command) = IsCall client command
IsEvent (Query client server pairs) = IsQuery client server pairs
IsEvent (Retry client server) = IsRetry client server
IsEvent (Deliver k) = IsNumber k
IsEvent (Lose k) = IsNumber k
IsEvent (Tick who) = IsTicked who
IsEvent (Work server workers) = IsWork server workers
IsEvent (Stop server) = IsNumber server.0
IsEvent (Notice server) = IsNumber server.0
IsEvent (Show server) = IsNumber server.0
IsEvent Join = Unit {0}
IsEvent Round = Unit {0}
IsEvent (Learn client) = IsNumber client.0

-- the words of a query, each with a space before it
abbrev pub asked_words : List (EventId × EventId) → List ℕ
asked_words pairs = flat_map (λ pair. codes " " ++ asked_word pair) pairs

-- the number in the line of a tick, which is 0 for the manager
abbrev pub ticked_number : Option ServerId → ℕ
ticked_number None = 0
ticked_number (Some server) = server.0

-- the first word of its line
abbrev pub event_word : Event → List ℕ
event_word (Call client command) = command_word command
event_word (Query client server pairs) = codes "query"
event_word (Retry client server) = codes "retry"
event_word (Deliver k) = codes "deliver"
event_word (Lose k) = codes "lose"
event_word (Tick who) = codes "tick"
event_word (Work server workers) = codes "work"
event_word (Stop server) = codes "stop"
event_word (Notice server) = codes "notice"
event_word (Show server) = codes "show"
event_word Join = codes "join"
event_word Round = codes "round"
event_word (Learn client) = codes "learn"

-- the words that follow it, each with a space before it
abbrev pub event_words : Event → List ℕ
event_words (Call client command) = codes " " ++ decimal client.0 ++ command_words command
event_words (Query client server pairs) =
    codes " " ++ decimal client.0 ++ codes " " ++ decimal server.0 ++ asked_words pairs
event_words (Retry client server) = codes " " ++ decimal client.0 ++ codes " " ++ decimal server.0
event_words (Deliver k) = codes " " ++ decimal k
event_words (Lose k) = codes " " ++ decimal k
event_words (Tick who) = codes " " ++ decimal (ticked_number who)
event_words (Work server workers) = codes " " ++ decimal server.0 ++ codes " " ++ decimal workers
event_words (Stop server) = codes " " ++ decimal server.0
event_words (Notice server) = codes " " ++ decimal server.0
event_words (Show server) = codes " " ++ decimal server.0
event_words Join = []
event_words Round = []
event_words (Learn client) = codes " " ++ decimal client.0

-- its line, without the end
abbrev pub event_text : Event → List ℕ
event_text event = event_word event ++ event_words event
