-- The script of a load: rounds of calls over three servers and four clients, each packet delivered in the order in
-- which it is sent, and none lost.
use Rattle.std.specs.Prelude.{ℕ, zero, suc, ◌+◌, ◌-◌, ◌/◌, ◌%◌, ◌==◌, nat_le, if◌then◌else◌, List, [], ◌∷◌, ◌++◌, map, sum_by}
use Rattle.kr_order.specs.declared.ids.ClientId.{ClientId}
use Rattle.kr_order.specs.declared.ids.EventId.{EventId}
use Rattle.kr_order.specs.declared.ids.ServerId.{ServerId}
use Rattle.kr_order.specs.declared.batch.Kind.TheVariants.{Must}
use Rattle.kr_order.specs.declared.history.Command.{Command}
use Rattle.kr_order.specs.declared.history.Command.TheVariants.{Create, Assign, Release}
use Rattle.kr_order.specs.Numbers.{numbers_to}
use Rattle.script_lang.specs.declared.script.Event.{Event}
use Rattle.script_lang.specs.declared.script.Event.TheVariants.{Call, Query, Deliver, Work}
use Rattle.script_lang.specs.declared.script.Script.{Script}

-- how many packets a call brings with it: a command one request, two appends along the chain with the two
-- acknowledgements of them, one more of what is committed, and one reply; a query the question and the answer
abbrev pub packets_by : Event → ℕ
packets_by (Call client command) = 7
packets_by (Query client server pairs) = 2
packets_by other = 0

-- how many packets are sent in these events
abbrev pub sent_by : List Event → ℕ
sent_by events = sum_by packets_by events

-- the next so many packets behind those that were sent are delivered, in their order
abbrev pub deliveries : ℕ → ℕ → List Event
deliveries sent count = map (λ k. Deliver (sent + k)) (numbers_to count)

-- behind these events the client's command, and all packets that it brings
abbrev pub with_command : List Event → ClientId → Command → List Event
with_command events client command = events ++ (Call client command ∷ deliveries (sent_by events) 7)

-- behind these events the client's query of a server about one pair, which two workers answer
abbrev pub with_query : List Event → ClientId → ServerId → EventId × EventId → List Event
with_query events client server pair =
    events ++ (Query client server (pair ∷ []) ∷ Deliver (sent_by events + 1) ∷ Work server 2 ∷ Deliver (sent_by events + 2) ∷ [])

-- the clients take turns, round by round
abbrev pub client_of : ℕ → ClientId
client_of round = record { 0 = (round - 1) % 4 + 1 }

-- so do the servers that are asked, every fifth round
abbrev pub server_of : ℕ → ServerId
server_of round = record { 0 = (round / 5) % 3 + 1 }

-- one event is to be before another
abbrev pub must_pair : ℕ → ℕ → Command
must_pair first second =
    Assign (record { first = record { 0 = first }; second = record { 0 = second }; kind = Must } ∷ [])

-- a round creates its event, which has the round's number
abbrev pub creates : ℕ → List Event → List Event
creates round events = with_command events (client_of round) Create

-- from the second round on it binds the event behind that of the round before
abbrev pub assigns : ℕ → List Event → List Event
assigns round events =
    if nat_le 2 round then with_command events (client_of round) (must_pair (round - 1) round) else events

-- every fifth round it asks whether the event of four rounds before is before this one
abbrev pub asks : ℕ → List Event → List Event
asks round events =
    if round % 5 == 0 then with_query events (client_of round) (server_of round) (record { 0 = round - 4 }, record { 0 = round })
    else events

-- and from the eleventh on it releases the event of ten rounds before
abbrev pub releases : ℕ → List Event → List Event
releases round events =
    if nat_le 11 round then with_command events (client_of round) (Release (record { 0 = round - 10 })) else events

-- a round, behind the events of those before it
abbrev pub with_round : ℕ → List Event → List Event
with_round round events = releases round (asks round (assigns round (creates round events)))

-- the first so many rounds
abbrev pub made_events : ℕ → List Event
made_events zero = []
made_events (suc n) = with_round (n + 1) (made_events n)

-- the load of so many rounds
abbrev pub made : ℕ → Script
made n = record { servers = 3; clients = 4; events = made_events n }
