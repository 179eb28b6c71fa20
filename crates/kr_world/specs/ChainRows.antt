-- Worked runs of several servers: scripts, and what is printed of them, by hand.
use Rattle.std.specs.Prelude.{ℕ, List, [], ◌∷◌, ◌++◌, codes, Some}
use Rattle.script_lang.specs.declared.script.Event.{Event}
use Rattle.script_lang.specs.declared.script.Event.TheVariants.{Deliver, Lose, Tick}
use Rattle.script_lang.specs.declared.script.Script.{Script}
use Rattle.script_lang.specs.Line.{line}
use Rattle.kr_world.specs.Rows.{create, retry}

-- a script of three servers
abbrev of_three : List Event → Script
of_three events = record { servers = 3; clients = 1; events = events }

-- nothing happens
abbrev pub three_servers : Script
three_servers = of_three []

abbrev pub three_servers_text : List ℕ
three_servers_text = line (codes "history 0") ++ line (codes "end")

-- a create goes down the chain and is replied by the tail; the acknowledgements come up the chain, a newer one first
abbrev pub down_the_chain : Script
down_the_chain =
    of_three (create 1 ∷ Deliver 1 ∷ Deliver 2 ∷ Deliver 4 ∷ Deliver 6 ∷ Deliver 7 ∷ Deliver 5 ∷ Deliver 3 ∷ [])

abbrev pub down_the_chain_text : List ℕ
down_the_chain_text =
    line (codes "packet 1 c1 s1 request 1")
    ++ line (codes "packet 2 s1 s2 append 1 1")
    ++ line (codes "packet 3 s2 s1 ack 0 1")
    ++ line (codes "packet 4 s2 s3 append 1 1")
    ++ line (codes "grown 1")
    ++ line (codes "packet 5 s3 c1 reply 1 1")
    ++ line (codes "packet 6 s3 s2 ack 1 1")
    ++ line (codes "packet 7 s2 s1 ack 1 1")
    ++ line (codes "told c1 1 at 1 created 1")
    ++ line (codes "history 1")
    ++ line (codes "1 c1 1 create = created 1")
    ++ line (codes "end")

-- entries that come twice, and older ones that come after newer ones: each is acknowledged again, and none is taken
-- twice
abbrev pub entries_come_again : Script
entries_come_again =
    of_three (create 1 ∷ Deliver 1 ∷ Deliver 2 ∷ Deliver 4 ∷ Deliver 5
    ∷ create 1 ∷ Deliver 7 ∷ Deliver 8 ∷ Deliver 10 ∷ Deliver 10 ∷ Deliver 4 ∷ Deliver 8 ∷ Deliver 11 ∷ [])

abbrev pub entries_come_again_text : List ℕ
entries_come_again_text =
    line (codes "packet 1 c1 s1 request 1")
    ++ line (codes "packet 2 s1 s2 append 1 1")
    ++ line (codes "packet 3 s2 s1 ack 0 1")
    ++ line (codes "packet 4 s2 s3 append 1 1")
    ++ line (codes "grown 1")
    ++ line (codes "packet 5 s3 c1 reply 1 1")
    ++ line (codes "packet 6 s3 s2 ack 1 1")
    ++ line (codes "told c1 1 at 1 created 1")
    ++ line (codes "packet 7 c1 s1 request 2")
    ++ line (codes "packet 8 s1 s2 append 1 2")
    ++ line (codes "packet 9 s2 s1 ack 0 2")
    ++ line (codes "packet 10 s2 s3 append 1 2")
    ++ line (codes "grown 2")
    ++ line (codes "packet 11 s3 c1 reply 2 2")
    ++ line (codes "packet 12 s3 s2 ack 2 2")
    ++ line (codes "packet 13 s3 s2 ack 2 2")
    ++ line (codes "packet 14 s3 s2 ack 2 2")
    ++ line (codes "packet 15 s2 s1 ack 0 2")
    ++ line (codes "told c1 2 at 2 created 2")
    ++ line (codes "history 2")
    ++ line (codes "1 c1 1 create = created 1")
    ++ line (codes "2 c1 2 create = created 2")
    ++ line (codes "end")

-- a script of two servers
abbrev of_two : List Event → Script
of_two events = record { servers = 2; clients = 1; events = events }

-- entries are lost on the way and sent again when the first server ticks; the reply is lost, and the client tries
-- again at the last server, which replies once more
abbrev pub lost_on_the_way : Script
lost_on_the_way =
    of_two (create 1 ∷ Deliver 1 ∷ Lose 2 ∷ Deliver 2 ∷ Tick (Some (record { 0 = 1 }))
    ∷ Deliver 3 ∷ Lose 4 ∷ retry 1 2 ∷ Deliver 6 ∷ Deliver 7 ∷ [])

abbrev pub lost_on_the_way_text : List ℕ
lost_on_the_way_text =
    line (codes "packet 1 c1 s1 request 1")
    ++ line (codes "packet 2 s1 s2 append 1 1")
    ++ line (codes "refused Lost")
    ++ line (codes "packet 3 s1 s2 append 1 1")
    ++ line (codes "grown 1")
    ++ line (codes "packet 4 s2 c1 reply 1 1")
    ++ line (codes "packet 5 s2 s1 ack 1 1")
    ++ line (codes "packet 6 c1 s2 request 1")
    ++ line (codes "packet 7 s2 c1 reply 1 1")
    ++ line (codes "told c1 1 at 1 created 1")
    ++ line (codes "history 1")
    ++ line (codes "1 c1 1 create = created 1")
    ++ line (codes "end")
