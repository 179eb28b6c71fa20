-- A worked run in which an answer tells nothing, and is seen all the same: a script, and what is printed of it, by hand.
use Rattle.std.specs.Prelude.{ℕ, List, [], ◌∷◌, ◌++◌, codes, map}
use Rattle.kr_order.specs.declared.ids.ClientId.{ClientId}
use Rattle.script_lang.specs.declared.script.Event.{Event}
use Rattle.script_lang.specs.declared.script.Event.TheVariants.{Query, Deliver, Work}
use Rattle.script_lang.specs.declared.script.Script.{Script}
use Rattle.script_lang.specs.Line.{line}
use Rattle.kr_world.specs.World.{first_world}
use Rattle.kr_world.specs.Run.{run_of}
use Rattle.kr_world.specs.Counts.{world_after}
use Rattle.kr_world.specs.Seen.{tellings_of, named_to, heard_of}
use Rattle.kr_world.specs.Rows.{create, one, two}

-- a server works
abbrev works : ℕ → Event
works server = Work (record { 0 = server }) 1

-- The second client asks the first server of an event that is not there yet, after entry 1: it is unsure, and tells
-- nothing. The last server is asked, and answers after entry 2. What the second client then remembers of event 1 is told
-- after entry 2 too.
abbrev pub unsure_of_all : Script
unsure_of_all =
    record {
      servers = 2;
      clients = 2;
      events =
          create 1 ∷ Deliver 1 ∷ Deliver 2 ∷ Deliver 3 ∷ Deliver 4 ∷
          Query (record { 0 = 2 }) (record { 0 = 1 }) ((one, two) ∷ []) ∷ Deliver 5 ∷ works 1 ∷ Deliver 6 ∷
          create 1 ∷ Deliver 8 ∷ Deliver 9 ∷ Deliver 7 ∷ works 2 ∷ Deliver 12 ∷ Deliver 10 ∷ [];
    }

abbrev pub unsure_of_all_text : List ℕ
unsure_of_all_text =
    line (codes "packet 1 c1 s1 request 1")
    ++ line (codes "packet 2 s1 s2 append 1 1")
    ++ line (codes "grown 1")
    ++ line (codes "packet 3 s2 c1 reply 1 1")
    ++ line (codes "packet 4 s2 s1 ack 1 1")
    ++ line (codes "told c1 1 at 1 created 1")
    ++ line (codes "packet 5 c2 s1 ask 1 1 1")
    ++ line (codes "packet 6 s1 c2 answer 1 1 1")
    ++ line (codes "packet 7 c2 s2 ask 1 2 1")
    ++ line (codes "packet 8 c1 s1 request 2")
    ++ line (codes "packet 9 s1 s2 append 2 1")
    ++ line (codes "grown 2")
    ++ line (codes "packet 10 s2 c1 reply 2 2")
    ++ line (codes "packet 11 s2 s1 ack 2 2")
    ++ line (codes "packet 12 s2 c2 answer 1 2 2")
    ++ line (codes "part c2 1 1,2 concurrent at 2 by s2")
    ++ line (codes "told c1 2 at 2 created 2")
    ++ line (codes "history 2")
    ++ line (codes "1 c1 1 create = created 1")
    ++ line (codes "2 c1 2 create = created 2")
    ++ line (codes "end")

abbrev pub client : ℕ → ClientId
client n = record { 0 = n }

-- what the client was told of in the run, by records
abbrev pub told_there : ℕ → List ℕ
told_there n = named_to (client n) (tellings_of (run_of unsure_of_all))

-- and heard of
abbrev pub heard_there : ℕ → List ℕ
heard_there n = heard_of (client n) (run_of unsure_of_all)

-- what each client has seen at the end
abbrev pub seen_there : List ℕ
seen_there = map (λ c. c.seen) (world_after (first_world 2 2) (run_of unsure_of_all)).clients
