-- Worked runs of one server: scripts, and what is printed of them, by hand.
use Rattle.std.specs.Prelude.{ℕ, List, [], ◌∷◌, ◌++◌, codes, Some}
use Rattle.kr_order.specs.declared.history.Command.TheVariants.{Create, Assign}
use Rattle.kr_order.specs.declared.ids.EventId.{EventId}
use Rattle.kr_order.specs.declared.ids.ServerId.{ServerId}
use Rattle.kr_order.specs.declared.batch.Pair.{Pair}
use Rattle.kr_order.specs.declared.batch.Kind.TheVariants.{Must}
use Rattle.script_lang.specs.declared.script.Event.{Event}
use Rattle.script_lang.specs.declared.script.Event.TheVariants.{Call, Query, Retry, Deliver, Lose, Tick, Work, Show}
use Rattle.script_lang.specs.declared.script.Script.{Script}
use Rattle.script_lang.specs.Line.{line}

-- a client creates an event
abbrev pub create : ℕ → Event
create client = Call (record { 0 = client }) Create

-- a script of one server
abbrev pub script : List Event → Script
script events = record { servers = 1; clients = 1; events = events }

abbrev pub one : EventId
one = record { 0 = 1 }

abbrev pub two : EventId
two = record { 0 = 2 }

abbrev pub create_an_event : Script
create_an_event = script (create 1 ∷ Deliver 1 ∷ Deliver 2 ∷ [])

abbrev pub create_an_event_text : List ℕ
create_an_event_text =
    line (codes "packet 1 c1 s1 request 1")
    ++ line (codes "grown 1")
    ++ line (codes "packet 2 s1 c1 reply 1 1")
    ++ line (codes "told c1 1 at 1 created 1")
    ++ line (codes "history 1")
    ++ line (codes "1 c1 1 create = created 1")
    ++ line (codes "end")

abbrev pub request_delivered_twice : Script
request_delivered_twice = script (create 1 ∷ Deliver 1 ∷ Deliver 1 ∷ Deliver 3 ∷ Deliver 2 ∷ [])

abbrev pub request_delivered_twice_text : List ℕ
request_delivered_twice_text =
    line (codes "packet 1 c1 s1 request 1")
    ++ line (codes "grown 1")
    ++ line (codes "packet 2 s1 c1 reply 1 1")
    ++ line (codes "packet 3 s1 c1 reply 1 1")
    ++ line (codes "told c1 1 at 1 created 1")
    ++ line (codes "history 1")
    ++ line (codes "1 c1 1 create = created 1")
    ++ line (codes "end")

-- a client tries its open call again at the server
abbrev pub retry : ℕ → ℕ → Event
retry client server = Retry (record { 0 = client }) (record { 0 = server })

-- a request that comes three times, and once more as the client tries again: each time but the first the reply is sent
-- again, and the client takes one
abbrev pub request_tried_again : Script
request_tried_again =
    script (create 1 ∷ Deliver 1 ∷ Deliver 1 ∷ Deliver 1 ∷ retry 1 1 ∷ Deliver 5 ∷ Deliver 2 ∷ Deliver 6 ∷ [])

abbrev pub request_tried_again_text : List ℕ
request_tried_again_text =
    line (codes "packet 1 c1 s1 request 1")
    ++ line (codes "grown 1")
    ++ line (codes "packet 2 s1 c1 reply 1 1")
    ++ line (codes "packet 3 s1 c1 reply 1 1")
    ++ line (codes "packet 4 s1 c1 reply 1 1")
    ++ line (codes "packet 5 c1 s1 request 1")
    ++ line (codes "packet 6 s1 c1 reply 1 1")
    ++ line (codes "told c1 1 at 1 created 1")
    ++ line (codes "history 1")
    ++ line (codes "1 c1 1 create = created 1")
    ++ line (codes "end")

-- a server that is not there
abbrev no_server : ServerId
no_server = record { 0 = 2 }

-- steps that are refused, each for another cause
abbrev pub refused_steps : Script
refused_steps =
    script (Deliver 1 ∷ create 2 ∷ Query (record { 0 = 1 }) no_server ((one, one) ∷ []) ∷ Work no_server 1
    ∷ Tick (Some no_server) ∷ Show no_server ∷ retry 1 1 ∷ create 1 ∷ create 1 ∷ retry 1 2 ∷ Deliver 2 ∷ Deliver 1
    ∷ create 1 ∷ Lose 2 ∷ Lose 2 ∷ Deliver 2 ∷ [])

abbrev pub refused_steps_text : List ℕ
refused_steps_text =
    line (codes "refused NoSuchPacket")
    ++ line (codes "refused NoSuchClient")
    ++ line (codes "refused NoSuchServer")
    ++ line (codes "refused NoSuchServer")
    ++ line (codes "refused NoSuchServer")
    ++ line (codes "refused NoSuchServer")
    ++ line (codes "refused NothingOpen")
    ++ line (codes "packet 1 c1 s1 request 1")
    ++ line (codes "refused Busy")
    ++ line (codes "refused NoSuchServer")
    ++ line (codes "refused NoSuchPacket")
    ++ line (codes "grown 1")
    ++ line (codes "packet 2 s1 c1 reply 1 1")
    ++ line (codes "refused Busy")
    ++ line (codes "refused Lost")
    ++ line (codes "refused Lost")
    ++ line (codes "history 1")
    ++ line (codes "1 c1 1 create = created 1")
    ++ line (codes "end")

abbrev pub two_events : Script
two_events = script (create 1 ∷ Deliver 1 ∷ Deliver 2 ∷ create 1 ∷ Deliver 1 ∷ Deliver 3 ∷ Deliver 2 ∷ Deliver 5 ∷ Deliver 1 ∷ [])

abbrev pub two_events_text : List ℕ
two_events_text =
    line (codes "packet 1 c1 s1 request 1")
    ++ line (codes "grown 1")
    ++ line (codes "packet 2 s1 c1 reply 1 1")
    ++ line (codes "told c1 1 at 1 created 1")
    ++ line (codes "packet 3 c1 s1 request 2")
    ++ line (codes "packet 4 s1 c1 reply 1 1")
    ++ line (codes "grown 2")
    ++ line (codes "packet 5 s1 c1 reply 2 2")
    ++ line (codes "told c1 2 at 2 created 2")
    ++ line (codes "history 2")
    ++ line (codes "1 c1 1 create = created 1")
    ++ line (codes "2 c1 2 create = created 2")
    ++ line (codes "end")

-- the client assigns a batch
abbrev pub assign : List Pair → Event
assign pairs = Call (record { 0 = 1 }) (Assign pairs)

abbrev pub must : EventId → EventId → Pair
must a b = record { first = a; second = b; kind = Must }

-- two events are created; each takes two deliveries, and the next packet is the fifth
abbrev pub with_two_events : List Event → Script
with_two_events events = script (create 1 ∷ Deliver 1 ∷ Deliver 2 ∷ create 1 ∷ Deliver 3 ∷ Deliver 4 ∷ events)

abbrev pub two_events_made : List ℕ
two_events_made =
    line (codes "packet 1 c1 s1 request 1")
    ++ line (codes "grown 1")
    ++ line (codes "packet 2 s1 c1 reply 1 1")
    ++ line (codes "told c1 1 at 1 created 1")
    ++ line (codes "packet 3 c1 s1 request 2")
    ++ line (codes "grown 2")
    ++ line (codes "packet 4 s1 c1 reply 2 2")
    ++ line (codes "told c1 2 at 2 created 2")
