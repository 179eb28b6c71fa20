-- A worked run in which a server joins: a script, and what is printed of it, by hand.
use Rattle.std.specs.Prelude.{ℕ, List, [], ◌∷◌, ◌++◌, codes}
use Rattle.script_lang.specs.declared.script.Event.TheVariants.{Deliver, Show, Join}
use Rattle.script_lang.specs.declared.script.Script.{Script}
use Rattle.script_lang.specs.Line.{line}
use Rattle.kr_world.specs.Rows.{create}
use Rattle.kr_world.specs.StopRows.{stop, notice}

-- A server joins while the tail goes by an older view and commits; the tail stops once the joiner has become a member. The
-- new tail tells what the old one had taken.
abbrev pub tail_joins : Script
tail_joins =
    record {
      servers = 2;
      clients = 1;
      events =
          create 1 ∷ Deliver 1 ∷ Deliver 2 ∷ Deliver 3 ∷ Deliver 4 ∷ Join ∷ Deliver 7 ∷ Deliver 8 ∷ create 1 ∷
          Deliver 9 ∷ Deliver 10 ∷ Deliver 6 ∷ Deliver 14 ∷ Deliver 11 ∷ Deliver 15 ∷ create 1 ∷ Deliver 17 ∷
          Deliver 18 ∷ Deliver 16 ∷ stop 2 ∷ Deliver 23 ∷ Deliver 20 ∷ notice 2 ∷ Deliver 29 ∷ Deliver 30 ∷
          Deliver 28 ∷ Deliver 31 ∷ Deliver 32 ∷ Deliver 26 ∷ Show (record { 0 = 1 }) ∷ [];
    }

abbrev pub tail_joins_text : List ℕ
tail_joins_text =
    line (codes "packet 1 c1 s1 request 1")
    ++ line (codes "packet 2 s1 s2 append 1 1")
    ++ line (codes "grown 1")
    ++ line (codes "packet 3 s2 c1 reply 1 1")
    ++ line (codes "packet 4 s2 s1 ack 1 1")
    ++ line (codes "told c1 1 at 1 created 1")
    ++ line (codes "packet 5 m s1 view 2")
    ++ line (codes "packet 6 m s2 view 2")
    ++ line (codes "packet 7 m s3 view 2")
    ++ line (codes "packet 8 s3 s2 ack 0 0")
    ++ line (codes "packet 9 c1 s1 request 2")
    ++ line (codes "packet 10 s1 s2 append 2 1")
    ++ line (codes "grown 2")
    ++ line (codes "packet 11 s2 c1 reply 2 2")
    ++ line (codes "packet 12 s2 s1 ack 2 2")
    ++ line (codes "packet 13 s2 s1 ack 2 2")
    ++ line (codes "packet 14 s2 s3 append 1 2")
    ++ line (codes "packet 15 s3 s2 ack 0 2")
    ++ line (codes "told c1 2 at 2 created 2")
    ++ line (codes "packet 16 s2 m joined 3")
    ++ line (codes "packet 17 c1 s1 request 3")
    ++ line (codes "packet 18 s1 s2 append 2 2")
    ++ line (codes "packet 19 s2 s1 ack 2 3")
    ++ line (codes "packet 20 s2 s3 append 3 1")
    ++ line (codes "packet 21 m s1 view 3")
    ++ line (codes "packet 22 m s2 view 3")
    ++ line (codes "packet 23 m s3 view 3")
    ++ line (codes "packet 24 s3 c1 reply 2 2")
    ++ line (codes "packet 25 s3 s2 ack 2 2")
    ++ line (codes "grown 3")
    ++ line (codes "packet 26 s3 c1 reply 3 3")
    ++ line (codes "packet 27 s3 s2 ack 3 3")
    ++ line (codes "packet 28 m s1 view 4")
    ++ line (codes "packet 29 m s3 view 4")
    ++ line (codes "packet 30 s3 s1 ack 3 3")
    ++ line (codes "packet 31 s1 s3 append 1 3")
    ++ line (codes "packet 32 s3 s1 ack 3 3")
    ++ line (codes "told c1 3 at 3 created 3")
    ++ line (codes "show s1 view 4 log 3 done 3 held 3 pairs 0 waiting 0")
    ++ line (codes "history 3")
    ++ line (codes "1 c1 1 create = created 1")
    ++ line (codes "2 c1 2 create = created 2")
    ++ line (codes "3 c1 3 create = created 3")
    ++ line (codes "end")
