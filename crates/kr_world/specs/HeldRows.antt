-- A worked run on references: its script, and what is printed of it, by hand.
use Rattle.std.specs.Prelude.{ℕ, List, [], ◌∷◌, ◌++◌, codes}
use Rattle.kr_order.specs.declared.history.Command.TheVariants.{Release}
use Rattle.kr_order.specs.declared.ids.EventId.{EventId}
use Rattle.script_lang.specs.declared.script.Event.{Event}
use Rattle.script_lang.specs.declared.script.Event.TheVariants.{Call, Deliver, Show}
use Rattle.script_lang.specs.declared.script.Script.{Script}
use Rattle.script_lang.specs.Line.{line}
use Rattle.kr_world.specs.QueryRows.{query, work}
use Rattle.kr_world.specs.Rows.{create, assign, must, one, two, with_two_events, two_events_made}

abbrev three : EventId
three = record { 0 = 3 }

abbrev release : EventId → Event
release event = Call (record { 0 = 1 }) (Release event)

abbrev show : Event
show = Show (record { 0 = 1 })

-- of three events in a row the middle one is released: the first holds it, and is before the last; then the first is
-- released too, and only the last is held; that the first is before it the client remembers
abbrev pub events_released : Script
events_released =
    with_two_events (create 1 ∷ Deliver 5 ∷ Deliver 6 ∷ assign (must one two ∷ must two three ∷ []) ∷ Deliver 7 ∷ Deliver 8
    ∷ release two ∷ Deliver 9 ∷ Deliver 10 ∷ query ((one, three) ∷ []) ∷ Deliver 11 ∷ work ∷ Deliver 12 ∷ show
    ∷ release one ∷ Deliver 13 ∷ Deliver 14 ∷ show ∷ query ((one, three) ∷ []) ∷ [])

abbrev pub events_released_text : List ℕ
events_released_text =
    two_events_made
    ++ line (codes "packet 5 c1 s1 request 3")
    ++ line (codes "grown 3")
    ++ line (codes "packet 6 s1 c1 reply 3 3")
    ++ line (codes "told c1 3 at 3 created 3")
    ++ line (codes "packet 7 c1 s1 request 4")
    ++ line (codes "grown 4")
    ++ line (codes "packet 8 s1 c1 reply 4 4")
    ++ line (codes "told c1 4 at 4 assigned kept kept")
    ++ line (codes "packet 9 c1 s1 request 5")
    ++ line (codes "grown 5")
    ++ line (codes "packet 10 s1 c1 reply 5 5")
    ++ line (codes "told c1 5 at 5 count 0")
    ++ line (codes "packet 11 c1 s1 ask 1 1 1")
    ++ line (codes "packet 12 s1 c1 answer 1 1 5")
    ++ line (codes "part c1 1 1,3 before at 5 by s1")
    ++ line (codes "show s1 view 1 log 5 done 5 held 3 pairs 2 waiting 0")
    ++ line (codes "packet 13 c1 s1 request 6")
    ++ line (codes "grown 6")
    ++ line (codes "packet 14 s1 c1 reply 6 6")
    ++ line (codes "told c1 6 at 6 count 0")
    ++ line (codes "show s1 view 1 log 6 done 6 held 1 pairs 0 waiting 0")
    ++ line (codes "part c1 2 1,3 before at 5 by cache")
    ++ line (codes "history 6")
    ++ line (codes "1 c1 1 create = created 1")
    ++ line (codes "2 c1 2 create = created 2")
    ++ line (codes "3 c1 3 create = created 3")
    ++ line (codes "4 c1 4 assign 1!2 2!3 = assigned kept kept")
    ++ line (codes "5 c1 5 release 2 = count 0")
    ++ line (codes "6 c1 6 release 1 = count 0")
    ++ line (codes "end")
