-- What is counted over the steps of a run.
use Rattle.std.specs.Prelude.{ℕ, ◌*◌, ◌≤◌, Bool, true, false, List, [], ◌∷◌, length, count_by, sum_by}
use Rattle.kr_order.specs.declared.answer.Answer.{Answer}
use Rattle.kr_order.specs.declared.answer.Answer.TheVariants.{Before}
use Rattle.script_lang.specs.declared.script.Script.{Script}
use Rattle.script_lang.specs.Script.{IsScript}
use Rattle.kr_world.specs.World.{World}
use Rattle.kr_world.specs.Step.{Part}
use Rattle.kr_world.specs.Run.{Turn, run_of}

-- the first event was told to be before the second
abbrev pub is_before : Answer → Bool
is_before Before = true
is_before other = false

-- how many of these parts were told so
abbrev pub befores_of : List Part → ℕ
befores_of parts = count_by (λ part. is_before part.part.answer) parts

-- how many were in all of these steps
abbrev pub befores_in : List Turn → ℕ
befores_in turns = sum_by (λ turn. befores_of turn.outcome.parts) turns

-- the world after these steps
abbrev pub world_after : World → List Turn → World
world_after world [] = world
world_after world (turn ∷ turns) = world_after turn.outcome.after turns

-- in no step more parts are told than one query has pairs
abbrev pub BeforesAreFew : Type 0
BeforesAreFew = (script : Script) → IsScript script → befores_in (run_of script) ≤ 32 * length (run_of script)
