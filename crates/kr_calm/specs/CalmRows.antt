-- A worked run of as many rounds as are always enough for one server: its script, and what is printed of it, by hand.
use Rattle.std.specs.Prelude.{ℕ, List, [], ◌∷◌, ◌++◌, codes}
use Rattle.script_lang.specs.declared.script.Event.TheVariants.{Show}
use Rattle.script_lang.specs.declared.script.Script.{Script}
use Rattle.script_lang.specs.Line.{line}
use Rattle.kr_world.specs.Rows.{script, create}
use Rattle.kr_world.specs.Round.{steps_of}
use Rattle.kr_world.specs.World.{World, first_world}
use Rattle.kr_calm.specs.Calm.{IsCalm, HaveRoom, after_lines, rounds, enough_always}

-- A client creates an event, and as many rounds go by as are enough for a chain of one. After two of them it is answered,
-- and nothing but the manager's view is sent. Then the server is shown, and the next call finds the client idle.
abbrev pub ten_rounds : Script
ten_rounds = script (create 1 ∷ (rounds (enough_always 1) ++ (Show (record { 0 = 1 }) ∷ create 1 ∷ [])))

abbrev pub ten_rounds_text : List ℕ
ten_rounds_text =
    line (codes "packet 1 c1 s1 request 1")
    ++ line (codes "packet 2 m s1 view 1")
    ++ line (codes "packet 3 c1 s1 request 1")
    ++ line (codes "grown 1")
    ++ line (codes "packet 4 s1 c1 reply 1 1")
    ++ line (codes "packet 5 s1 c1 reply 1 1")
    ++ line (codes "packet 6 m s1 view 1")
    ++ line (codes "packet 7 c1 s1 request 1")
    ++ line (codes "told c1 1 at 1 created 1")
    ++ line (codes "packet 8 s1 c1 reply 1 1")
    ++ line (codes "packet 9 m s1 view 1")
    ++ line (codes "packet 10 m s1 view 1")
    ++ line (codes "packet 11 m s1 view 1")
    ++ line (codes "packet 12 m s1 view 1")
    ++ line (codes "packet 13 m s1 view 1")
    ++ line (codes "packet 14 m s1 view 1")
    ++ line (codes "packet 15 m s1 view 1")
    ++ line (codes "packet 16 m s1 view 1")
    ++ line (codes "show s1 view 1 log 1 done 1 held 1 pairs 0 waiting 0")
    ++ line (codes "packet 17 c1 s1 request 2")
    ++ line (codes "history 1")
    ++ line (codes "1 c1 1 create = created 1")
    ++ line (codes "end")

-- a world from which so many rounds leave every call answered: it is calm, and no step is refused for a full bag
pub record MeetsPremise (world : World) (n : ℕ) : Type 0 where
  pub calm : IsCalm world
  pub room : HaveRoom world (steps_of world (rounds n))

-- the world after the first line of the run is such a world
abbrev pub TenRoundsAreCalm : Type 0
TenRoundsAreCalm = MeetsPremise (after_lines (first_world 1 1) (create 1 ∷ [])) (enough_always 1)
