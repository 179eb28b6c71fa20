-- Worked runs of queries: scripts, and what is printed of them, by hand.
use Rattle.std.specs.Prelude.{ℕ, List, [], ◌∷◌, ◌++◌, codes}
use Rattle.kr_order.specs.declared.ids.EventId.{EventId}
use Rattle.kr_order.specs.declared.batch.Pair.{Pair}
use Rattle.kr_order.specs.declared.batch.Kind.TheVariants.{Prefer}
use Rattle.script_lang.specs.declared.script.Event.{Event}
use Rattle.script_lang.specs.declared.script.Event.TheVariants.{Query, Deliver, Work}
use Rattle.script_lang.specs.declared.script.Script.{Script}
use Rattle.script_lang.specs.Line.{line}
use Rattle.kr_world.specs.Rows.{create, retry, assign, must, one, two, with_two_events, two_events_made}

-- the client asks the first server
abbrev pub query : List (EventId × EventId) → Event
query pairs = Query (record { 0 = 1 }) (record { 0 = 1 }) pairs

-- a server works
abbrev works : ℕ → Event
works server = Work (record { 0 = server }) 1

-- the first one does
abbrev pub work : Event
work = works 1

abbrev prefer : EventId → EventId → Pair
prefer a b = record { first = a; second = b; kind = Prefer }

-- an answer is told once, and an answer to another query is not told
abbrev pub concurrent_events : Script
concurrent_events =
    with_two_events (query ((one, two) ∷ []) ∷ Deliver 5 ∷ work ∷ Deliver 6 ∷ Deliver 6 ∷ query ((one, two) ∷ [])
    ∷ Deliver 6 ∷ Deliver 7 ∷ work ∷ Deliver 8 ∷ [])

abbrev pub concurrent_events_text : List ℕ
concurrent_events_text =
    two_events_made
    ++ line (codes "packet 5 c1 s1 ask 1 1 1")
    ++ line (codes "packet 6 s1 c1 answer 1 1 2")
    ++ line (codes "part c1 1 1,2 concurrent at 2 by s1")
    ++ line (codes "packet 7 c1 s1 ask 2 1 1")
    ++ line (codes "packet 8 s1 c1 answer 2 1 2")
    ++ line (codes "part c1 2 1,2 concurrent at 2 by s1")
    ++ line (codes "history 2")
    ++ line (codes "1 c1 1 create = created 1")
    ++ line (codes "2 c1 2 create = created 2")
    ++ line (codes "end")

-- a must, a prefer that it reverses, a must that it contradicts, and what is asked of them
abbrev pub bound_events : Script
bound_events =
    with_two_events (assign (must one two ∷ []) ∷ Deliver 5 ∷ Deliver 6
    ∷ assign (prefer two one ∷ prefer one one ∷ []) ∷ Deliver 7 ∷ Deliver 8
    ∷ assign (must two one ∷ []) ∷ Deliver 9 ∷ Deliver 10
    ∷ query ((one, two) ∷ (two, one) ∷ (one, one) ∷ []) ∷ Deliver 11 ∷ work ∷ Deliver 12 ∷ [])

abbrev pub bound_events_text : List ℕ
bound_events_text =
    two_events_made
    ++ line (codes "packet 5 c1 s1 request 3")
    ++ line (codes "grown 3")
    ++ line (codes "packet 6 s1 c1 reply 3 3")
    ++ line (codes "told c1 3 at 3 assigned kept")
    ++ line (codes "packet 7 c1 s1 request 4")
    ++ line (codes "grown 4")
    ++ line (codes "packet 8 s1 c1 reply 4 4")
    ++ line (codes "told c1 4 at 4 assigned reversed same")
    ++ line (codes "packet 9 c1 s1 request 5")
    ++ line (codes "grown 5")
    ++ line (codes "packet 10 s1 c1 reply 5 5")
    ++ line (codes "told c1 5 at 5 contradicts 0")
    ++ line (codes "packet 11 c1 s1 ask 1 1 3")
    ++ line (codes "packet 12 s1 c1 answer 1 1 5")
    ++ line (codes "part c1 1 1,2 before at 5 by s1")
    ++ line (codes "part c1 1 2,1 after at 5 by s1")
    ++ line (codes "part c1 1 1,1 same at 5 by s1")
    ++ line (codes "history 5")
    ++ line (codes "1 c1 1 create = created 1")
    ++ line (codes "2 c1 2 create = created 2")
    ++ line (codes "3 c1 3 assign 1!2 = assigned kept")
    ++ line (codes "4 c1 4 assign 2?1 1?1 = assigned reversed same")
    ++ line (codes "5 c1 5 assign 2!1 = contradicts 0")
    ++ line (codes "end")

-- a stale server is unsure, so the last one is asked; the first, asked for that part again, refers to its view, which the
-- client knows; the last one's answer is told, and the next time by the cache
abbrev pub asked_at_the_head : Script
asked_at_the_head =
    record {
      servers = 2;
      clients = 1;
      events =
          create 1 ∷ Deliver 1 ∷ Deliver 2 ∷ Deliver 3 ∷ query ((one, one) ∷ []) ∷ Deliver 5 ∷ works 1 ∷ Deliver 6
          ∷ retry 1 1 ∷ Deliver 8 ∷ Deliver 9 ∷ Deliver 7 ∷ works 2 ∷ Deliver 10 ∷ query ((one, one) ∷ []) ∷ [];
    }

abbrev pub asked_at_the_head_text : List ℕ
asked_at_the_head_text =
    line (codes "packet 1 c1 s1 request 1")
    ++ line (codes "packet 2 s1 s2 append 1 1")
    ++ line (codes "grown 1")
    ++ line (codes "packet 3 s2 c1 reply 1 1")
    ++ line (codes "packet 4 s2 s1 ack 1 1")
    ++ line (codes "told c1 1 at 1 created 1")
    ++ line (codes "packet 5 c1 s1 ask 1 1 1")
    ++ line (codes "packet 6 s1 c1 answer 1 1 0")
    ++ line (codes "packet 7 c1 s2 ask 1 2 1")
    ++ line (codes "packet 8 c1 s1 ask 1 2 1")
    ++ line (codes "packet 9 s1 c1 refer 1 2 1")
    ++ line (codes "packet 10 s2 c1 answer 1 2 1")
    ++ line (codes "part c1 1 1,1 same at 1 by s2")
    ++ line (codes "part c1 2 1,1 same at 1 by cache")
    ++ line (codes "history 1")
    ++ line (codes "1 c1 1 create = created 1")
    ++ line (codes "end")
