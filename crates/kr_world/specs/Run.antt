-- Whole runs, and the text that is printed of one.
use Rattle.std.specs.Prelude.{ℕ, List, [], ◌∷◌, ◌++◌}
use Rattle.script_lang.specs.declared.script.Event.{Event}
use Rattle.script_lang.specs.declared.script.Script.{Script}
use Rattle.kr_world.specs.World.{World, first_world}
use Rattle.kr_world.specs.Step.{Outcome, step}
use Rattle.kr_world.specs.Round.{plain_events, steps_of}
use Rattle.kr_world.specs.Lines.{step_lines, end_lines}

-- one step of a run
pub record Turn : Type 0 where
  pub before : World
  pub event : Event
  pub outcome : Outcome

-- the steps of these events, one after the other
abbrev pub run_from : World → List Event → List Turn
run_from world [] = []
run_from world (event ∷ events) =
    let outcome = step world event in record { before = world; event = event; outcome = outcome } ∷ run_from outcome.after events

-- the run of a script: the plain steps of its lines
abbrev pub run_of : Script → List Turn
run_of script =
    let world = first_world script.servers script.clients in run_from world (steps_of world script.events)

-- what is printed of the steps of these events
abbrev pub lines_from : World → List Event → List ℕ
lines_from world [] = []
lines_from world (event ∷ events) =
    let outcome = step world event in step_lines world outcome ++ lines_from outcome.after events

-- what is printed of a line: of its plain steps
abbrev pub lines_of : World → Event → List ℕ
lines_of world event = lines_from world (plain_events world event)

-- what is printed of these steps, and at the end
abbrev pub text_from : World → List Turn → List ℕ
text_from world [] = end_lines world.history
text_from world (turn ∷ turns) = step_lines turn.before turn.outcome ++ text_from turn.outcome.after turns

-- what is printed of the script's run
abbrev pub text_of : Script → List ℕ
text_of script = text_from (first_world script.servers script.clients) (run_of script)
