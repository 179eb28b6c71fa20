-- In how many rounds every call is answered: from a world to which no server joins and whose members all run.
use Rattle.std.specs.Prelude.{◌≡◌, ◌≢◌, ◌+◌, ◌*◌, ℕ, zero, suc, max, false, List, [], ◌∷◌, ◌++◌, length, slice_get, All, Some, None}
use Rattle.kr_protocol.specs.Server.{Server}
use Rattle.kr_protocol.specs.Client.{is_busy}
use Rattle.script_lang.specs.declared.script.Event.{Event}
use Rattle.script_lang.specs.declared.script.Event.TheVariants.{Round}
use Rattle.script_lang.specs.declared.script.Script.{Script}
use Rattle.script_lang.specs.Script.{IsScript}
use Rattle.kr_world.specs.declared.refusal.Refusal.TheVariants.{BagFull}
use Rattle.kr_world.specs.World.{World, first_world, is_stopped}
use Rattle.kr_world.specs.Step.{refusal_of, step}
use Rattle.kr_world.specs.Round.{after_all, steps_of}

-- no server joins, and no member of the chain has stopped
pub record IsCalm (world : World) : Type 0 where
  pub alone : world.manager.current.joiner ≡ None
  pub run : All (λ id. is_stopped world id ≡ false) world.manager.current.chain

-- no call is open, and every server that has not stopped has applied the whole history
pub record IsAnswered (world : World) : Type 0 where
  pub idle : All (λ client. is_busy client ≡ false) world.clients
  pub done :
      (i : ℕ) (server : Server)
      → slice_get world.servers i ≡ Some server
      → is_stopped world server.id ≡ false
      → server.done ≡ length world.history

-- none of these events is refused for a full bag, one after the other
abbrev pub HaveRoom : World → List Event → Type 0
HaveRoom world [] = Unit {0}
HaveRoom world (event ∷ events) = (refusal_of world event ≢ Some BagFull) × HaveRoom (step world event).after events

-- so many lines `round`
abbrev pub rounds : ℕ → List Event
rounds zero = []
rounds (suc n) = Round ∷ rounds n

-- the world after these lines of a script
abbrev pub after_lines : World → List Event → World
after_lines world lines = after_all world (steps_of world lines)

-- so many rounds leave every call answered, where none of them and none of their steps is refused for a full bag
abbrev pub AnswersIn : ℕ → World → Type 0
AnswersIn n world = HaveRoom world (steps_of world (rounds n)) → IsAnswered (after_lines world (rounds n))

-- how many rounds are enough for a chain of so many members: a call goes down the chain and its acknowledgement up, one
-- member a round, and a query is asked twice
abbrev pub enough : ℕ → ℕ
enough members = max (2 * members + 2) 5

-- a simpler number, which is greater
abbrev pub enough_always : ℕ → ℕ
enough_always members = 2 * members + 8

-- In the script's run, so many rounds as its chain needs leave every call answered, from each calm world on behind which
-- the script goes on with as many lines `round`.
abbrev pub IsCalmBy : (ℕ → ℕ) → Script → Type 0
IsCalmBy count script =
    (before more : List Event)
    → let world = after_lines (first_world script.servers script.clients) before in
    let n = count (length world.manager.current.chain) in
    script.events ≡ before ++ (rounds n ++ more) → IsCalm world → AnswersIn n world

-- the run is calm, by the simpler number and by the sharper one
pub record IsCalmRun (script : Script) : Type 0 where
  pub always : IsCalmBy enough_always script
  pub sharp : IsCalmBy enough script

-- every run of a script is
abbrev pub RunsAreCalm : Type 0
RunsAreCalm = (script : Script) → IsScript script → IsCalmRun script
