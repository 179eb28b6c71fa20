-- Worked runs in which servers stop: scripts, and what is printed of them, by hand.
use Rattle.std.specs.Prelude.{ℕ, List, [], ◌∷◌, ◌++◌, codes}
use Rattle.kr_order.specs.declared.history.Command.TheVariants.{Assign}
use Rattle.script_lang.specs.declared.script.Event.{Event}
use Rattle.script_lang.specs.declared.script.Event.TheVariants.{Call, Query, Deliver, Lose, Work, Stop, Notice, Learn}
use Rattle.script_lang.specs.declared.script.Script.{Script}
use Rattle.script_lang.specs.Line.{line}
use Rattle.kr_world.specs.Rows.{create, retry, must, one, two}

-- the server stops
abbrev pub stop : ℕ → Event
stop server = Stop (record { 0 = server })

-- the manager hears of it
abbrev pub notice : ℕ → Event
notice server = Notice (record { 0 = server })

-- the client learns the manager's view
abbrev learn : ℕ → Event
learn client = Learn (record { 0 = client })

-- the server works
abbrev work : ℕ → Event
work server = Work (record { 0 = server }) 1

-- The first of two servers holds a must that it has not passed on. It is unsure of the two events, and stops; the second
-- takes another client's must the other way round, and the first client's command contradicts it.
abbrev pub head_stops : Script
head_stops =
    record {
      servers = 2;
      clients = 3;
      events =
          create 1 ∷ Deliver 1 ∷ Deliver 2 ∷ Deliver 3 ∷ Deliver 4 ∷ create 1 ∷ Deliver 5 ∷ Deliver 6 ∷
          Deliver 7 ∷ Deliver 8 ∷ Call (record { 0 = 1 }) (Assign (must one two ∷ [])) ∷ Deliver 9 ∷
          Query (record { 0 = 2 }) (record { 0 = 1 }) ((one, two) ∷ []) ∷ Deliver 11 ∷ work 1 ∷ Deliver 12 ∷
          stop 1 ∷ notice 1 ∷ Deliver 14 ∷ Deliver 10 ∷ learn 3 ∷
          Call (record { 0 = 3 }) (Assign (must two one ∷ [])) ∷ Deliver 15 ∷ Deliver 16 ∷ Deliver 13 ∷ work 2 ∷
          Deliver 17 ∷ retry 1 2 ∷ Deliver 18 ∷ Deliver 19 ∷ [];
    }

abbrev pub head_stops_text : List ℕ
head_stops_text =
    line (codes "packet 1 c1 s1 request 1")
    ++ line (codes "packet 2 s1 s2 append 1 1")
    ++ line (codes "grown 1")
    ++ line (codes "packet 3 s2 c1 reply 1 1")
    ++ line (codes "packet 4 s2 s1 ack 1 1")
    ++ line (codes "told c1 1 at 1 created 1")
    ++ line (codes "packet 5 c1 s1 request 2")
    ++ line (codes "packet 6 s1 s2 append 2 1")
    ++ line (codes "grown 2")
    ++ line (codes "packet 7 s2 c1 reply 2 2")
    ++ line (codes "packet 8 s2 s1 ack 2 2")
    ++ line (codes "told c1 2 at 2 created 2")
    ++ line (codes "packet 9 c1 s1 request 3")
    ++ line (codes "packet 10 s1 s2 append 3 1")
    ++ line (codes "packet 11 c2 s1 ask 1 1 1")
    ++ line (codes "packet 12 s1 c2 answer 1 1 2")
    ++ line (codes "packet 13 c2 s2 ask 1 2 1")
    ++ line (codes "packet 14 m s2 view 2")
    ++ line (codes "packet 15 c3 s2 request 1")
    ++ line (codes "grown 3")
    ++ line (codes "packet 16 s2 c3 reply 1 3")
    ++ line (codes "told c3 1 at 3 assigned kept")
    ++ line (codes "packet 17 s2 c2 answer 1 2 3")
    ++ line (codes "part c2 1 1,2 after at 3 by s2")
    ++ line (codes "packet 18 c1 s2 request 3")
    ++ line (codes "grown 4")
    ++ line (codes "packet 19 s2 c1 reply 3 4")
    ++ line (codes "told c1 3 at 4 contradicts 0")
    ++ line (codes "history 4")
    ++ line (codes "1 c1 1 create = created 1")
    ++ line (codes "2 c1 2 create = created 2")
    ++ line (codes "3 c3 1 assign 2!1 = assigned kept")
    ++ line (codes "4 c1 3 assign 1!2 = contradicts 0")
    ++ line (codes "end")

-- The tail stops after it has committed; its reply is lost. The head becomes the tail, and replies for it.
abbrev pub tail_stops : Script
tail_stops =
    record {
      servers = 2;
      clients = 1;
      events =
          create 1 ∷ Deliver 1 ∷ Deliver 2 ∷ Lose 3 ∷ stop 2 ∷ notice 2 ∷ Deliver 5 ∷ retry 1 1 ∷ Deliver 7 ∷
          Deliver 8 ∷ Deliver 6 ∷ Deliver 4 ∷ Deliver 3 ∷ [];
    }

abbrev pub tail_stops_text : List ℕ
tail_stops_text =
    line (codes "packet 1 c1 s1 request 1")
    ++ line (codes "packet 2 s1 s2 append 1 1")
    ++ line (codes "grown 1")
    ++ line (codes "packet 3 s2 c1 reply 1 1")
    ++ line (codes "packet 4 s2 s1 ack 1 1")
    ++ line (codes "packet 5 m s1 view 2")
    ++ line (codes "packet 6 s1 c1 reply 1 1")
    ++ line (codes "packet 7 c1 s1 request 1")
    ++ line (codes "packet 8 s1 c1 reply 1 1")
    ++ line (codes "told c1 1 at 1 created 1")
    ++ line (codes "refused Lost")
    ++ line (codes "history 1")
    ++ line (codes "1 c1 1 create = created 1")
    ++ line (codes "end")

-- A server that has acknowledged nothing becomes the tail, and acknowledges two entries; one of them is new.
abbrev pub one_of_two_is_new : Script
one_of_two_is_new =
    record {
      servers = 2;
      clients = 1;
      events =
          create 1 ∷ Deliver 1 ∷ Deliver 2 ∷ Deliver 3 ∷ create 1 ∷ Deliver 5 ∷ stop 2 ∷ notice 2 ∷ Deliver 7 ∷ [];
    }

abbrev pub one_of_two_is_new_text : List ℕ
one_of_two_is_new_text =
    line (codes "packet 1 c1 s1 request 1")
    ++ line (codes "packet 2 s1 s2 append 1 1")
    ++ line (codes "grown 1")
    ++ line (codes "packet 3 s2 c1 reply 1 1")
    ++ line (codes "packet 4 s2 s1 ack 1 1")
    ++ line (codes "told c1 1 at 1 created 1")
    ++ line (codes "packet 5 c1 s1 request 2")
    ++ line (codes "packet 6 s1 s2 append 1 2")
    ++ line (codes "packet 7 m s1 view 2")
    ++ line (codes "grown 2")
    ++ line (codes "packet 8 s1 c1 reply 2 2")
    ++ line (codes "history 2")
    ++ line (codes "1 c1 1 create = created 1")
    ++ line (codes "2 c1 2 create = created 2")
    ++ line (codes "end")
