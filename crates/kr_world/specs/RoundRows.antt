-- A worked run of two rounds: its script, and what is printed of it, by hand.
use Rattle.std.specs.Prelude.{ℕ, List, [], ◌∷◌, ◌++◌, codes}
use Rattle.script_lang.specs.declared.script.Event.TheVariants.{Round}
use Rattle.script_lang.specs.declared.script.Script.{Script}
use Rattle.script_lang.specs.Line.{line}
use Rattle.kr_world.specs.Rows.{script, create}

-- A client creates an event, and two rounds go by. In the first the request is tried again and both are delivered, so
-- there are two replies; in the second the first of them is told.
abbrev pub two_rounds : Script
two_rounds = script (create 1 ∷ Round ∷ Round ∷ [])

abbrev pub two_rounds_text : List ℕ
two_rounds_text =
    line (codes "packet 1 c1 s1 request 1")
    ++ line (codes "packet 2 m s1 view 1")
    ++ line (codes "packet 3 c1 s1 request 1")
    ++ line (codes "grown 1")
    ++ line (codes "packet 4 s1 c1 reply 1 1")
    ++ line (codes "packet 5 s1 c1 reply 1 1")
    ++ line (codes "packet 6 m s1 view 1")
    ++ line (codes "packet 7 c1 s1 request 1")
    ++ line (codes "told c1 1 at 1 created 1")
    ++ line (codes "packet 8 s1 c1 reply 1 1")
    ++ line (codes "history 1")
    ++ line (codes "1 c1 1 create = created 1")
    ++ line (codes "end")
