-- Small loads, and what is printed of them, by hand.
use Rattle.std.specs.Prelude.{ℕ, List, [], ◌∷◌, ◌++◌, codes}
use Rattle.kr_order.specs.declared.history.Command.TheVariants.{Create}
use Rattle.script_lang.specs.declared.script.Event.{Event}
use Rattle.script_lang.specs.declared.script.Event.TheVariants.{Call, Deliver}
use Rattle.script_lang.specs.Line.{line}

-- one round is one create
abbrev pub one_round : List Event
one_round =
    Call (record { 0 = 1 }) Create ∷ Deliver 1 ∷ Deliver 2 ∷ Deliver 3 ∷ Deliver 4 ∷ Deliver 5 ∷ Deliver 6 ∷ Deliver 7 ∷ []

abbrev pub one_round_text : List ℕ
one_round_text =
    line (codes "calls 1")
    ++ line (codes "history 1")
    ++ line (codes "packets 7")
    ++ line (codes "born 1")
    ++ line (codes "held 1")
    ++ line (codes "pairs 0")
    ++ line (codes "before 0")
    ++ line (codes "end")

-- the first eleven rounds have a batch each but for the first, two queries, and in the last a release
abbrev pub eleven_rounds_text : List ℕ
eleven_rounds_text =
    line (codes "calls 24")
    ++ line (codes "history 22")
    ++ line (codes "packets 158")
    ++ line (codes "born 11")
    ++ line (codes "held 10")
    ++ line (codes "pairs 9")
    ++ line (codes "before 2")
    ++ line (codes "end")
