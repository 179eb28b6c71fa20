-- A script with a line of each kind, and one of three servers, and how they are spelt.
use Rattle.std.specs.Prelude.{ℕ, List, [], ◌∷◌, ◌++◌, codes, None, Some}
use Rattle.kr_order.specs.declared.ids.EventId.{EventId}
use Rattle.kr_order.specs.declared.ids.ClientId.{ClientId}
use Rattle.kr_order.specs.declared.ids.ServerId.{ServerId}
use Rattle.kr_order.specs.declared.batch.Kind.TheVariants.{Must, Prefer}
use Rattle.kr_order.specs.declared.batch.Pair.{Pair}
use Rattle.kr_order.specs.declared.history.Command.TheVariants.{Create, Assign, Acquire, Release}
use Rattle.script_lang.specs.declared.script.Event.{Event}
use Rattle.script_lang.specs.declared.script.Event.TheVariants.{Call, Query, Retry, Deliver, Lose, Tick, Work, Stop, Notice, Show, Join}
use Rattle.script_lang.specs.declared.script.Event.TheVariants.{Round, Learn}
use Rattle.script_lang.specs.declared.script.Script.{Script}
use Rattle.script_lang.specs.Line.{line}

abbrev client : ℕ → ClientId
client n = record { 0 = n }

abbrev server : ℕ → ServerId
server n = record { 0 = n }

abbrev event : ℕ → EventId
event n = record { 0 = n }

abbrev pub must : ℕ → ℕ → Pair
must a b = record { first = event a; second = event b; kind = Must }

abbrev pub prefer : ℕ → ℕ → Pair
prefer a b = record { first = event a; second = event b; kind = Prefer }

abbrev pub asked : ℕ → ℕ → EventId × EventId
asked a b = (event a, event b)

-- the pairs of its batch
abbrev pub pairs_of_batch : List Pair
pairs_of_batch = must 1 2 ∷ prefer 3 18446744073709551615 ∷ []

-- the pairs of its query
abbrev pub pairs_of_query : List (EventId × EventId)
pairs_of_query = asked 1 2 ∷ asked 3 3 ∷ []

-- its events
abbrev pub each_kind_of_event : List Event
each_kind_of_event =
    Call (client 1) Create ∷ Call (client 2) (Assign []) ∷ Call (client 4294967295) (Assign pairs_of_batch)
    ∷ Call (client 1) (Acquire (event 18446744073709551615)) ∷ Call (client 16) (Release (event 1))
    ∷ Query (client 1) (server 2) pairs_of_query ∷ Retry (client 1) (server 4294967295)
    ∷ Deliver 4294967295 ∷ Lose 1 ∷ Tick (Some (server 4294967295)) ∷ Tick None ∷ Work (server 1) 8
    ∷ Stop (server 4294967295) ∷ Notice (server 1) ∷ Show (server 10) ∷ Join ∷ Round ∷ Learn (client 4294967295) ∷ []

abbrev pub each_kind : Script
each_kind = record { servers = 1; clients = 16; events = each_kind_of_event }

-- its spelling
abbrev pub each_kind_spelt : List ℕ
each_kind_spelt =
    line (codes "cluster 1 16") ++ line (codes "create 1") ++ line (codes "assign 2")
    ++ line (codes "assign 4294967295 1!2 3?18446744073709551615")
    ++ line (codes "acquire 1 18446744073709551615") ++ line (codes "release 16 1")
    ++ line (codes "query 1 2 1,2 3,3") ++ line (codes "retry 1 4294967295")
    ++ line (codes "deliver 4294967295") ++ line (codes "lose 1") ++ line (codes "tick 4294967295")
    ++ line (codes "tick 0") ++ line (codes "work 1 8") ++ line (codes "stop 4294967295")
    ++ line (codes "notice 1") ++ line (codes "show 10") ++ line (codes "join") ++ line (codes "round")
    ++ line (codes "learn 4294967295")

-- the events of the other
abbrev pub events_of_three : List Event
events_of_three =
    Call (client 1) Create ∷ Call (client 2) (Assign pairs_of_batch) ∷ Call (client 1) (Acquire (event 1))
    ∷ Call (client 2) (Release (event 1)) ∷ Retry (client 1) (server 2) ∷ Deliver 1 ∷ Lose 2
    ∷ Tick (Some (server 3)) ∷ Query (client 2) (server 3) pairs_of_query ∷ Work (server 2) 1 ∷ Show (server 1) ∷ []

abbrev pub of_three : Script
of_three = record { servers = 3; clients = 2; events = events_of_three }

-- its spelling
abbrev pub of_three_spelt : List ℕ
of_three_spelt =
    line (codes "cluster 3 2") ++ line (codes "create 1")
    ++ line (codes "assign 2 1!2 3?18446744073709551615") ++ line (codes "acquire 1 1")
    ++ line (codes "release 2 1") ++ line (codes "retry 1 2") ++ line (codes "deliver 1")
    ++ line (codes "lose 2") ++ line (codes "tick 3") ++ line (codes "query 2 3 1,2 3,3")
    ++ line (codes "work 2 1") ++ line (codes "show 1")
