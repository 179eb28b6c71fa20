-- The worlds of a run: each is sound and has the facts, after the steps before it.
use Rattle.std.proofs.Common.{zero, suc, ◌≡◌, ℕ, List, [], ◌∷◌, ◌++◌, take, refl, sym, subst, arith}
use Rattle.std.specs.Prelude.{Some, slice_get, All}
use Rattle.std.proofs.lemmas.List.{append-nil, append_assoc}
use Rattle.std.proofs.lemmas.List.Elements.{All-head, All-tail}
use Rattle.std.proofs.lemmas.Option.{none-some, same_Some}
use Rattle.script_lang.specs.declared.script.Event.{Event}
use Rattle.script_lang.specs.declared.script.Script.{Script}
use Rattle.script_lang.specs.Event.{IsEvent}
use Rattle.script_lang.specs.Script.{IsScript}
use Rattle.kr_world.specs.World.{World, first_world}
use Rattle.kr_world.specs.Step.{step}
use Rattle.kr_world.specs.Round.{steps_of}
use Rattle.kr_world.specs.Run.{Turn, run_from, run_of}
use Rattle.kr_world.specs.Counts.{world_after}
use Rattle.kr_world.specs.Sound.{IsSound}
use Rattle.kr_world.specs.Facts.{AreFacts}
use Rattle.kr_world.proofs.sound.SoundLemmas.{worlds_sound}
use Rattle.kr_world.proofs.facts.KeepLemmas.{turn_of, Keeps}
use Rattle.kr_world.proofs.runs.ActLemmas.{step_keeps}
use Rattle.kr_world.proofs.rounds.RoundEventLemmas.{script_fits}
use Rattle.kr_world.proofs.facts.FirstFactLemmas.{first_facts}

-- a run may go on by these events from this world, after these steps
pub record MayGoOn (past : List Turn) (world : World) (events : List Event) : Type 0 where
  pub each : All IsEvent events
  pub sound : IsSound world
  pub facts : AreFacts past world

-- the first step
abbrev pub first_turn : World → Event → Turn
first_turn world event = turn_of world event (step world event)

pub first_kept : (past : List Turn) (world : World) (event : Event) (events : List Event)
    → MayGoOn past world (event ∷ events) → Keeps past (first_turn world event)
first_kept past world event events may =
    step_keeps past world event (All-head IsEvent event events may.each) may.sound may.facts

-- and the others after it
pub goes_on : (past : List Turn) (world : World) (event : Event) (events : List Event)
    → MayGoOn past world (event ∷ events)
    → MayGoOn (past ++ first_turn world event ∷ []) (step world event).after events
goes_on past world event events may =
    record {
      each = All-tail IsEvent event events may.each;
      sound = worlds_sound.later world event may.sound;
      facts = (first_kept past world event events may).facts;
    }

-- the run of a script may go on from its first world
pub may_begin : (script : Script) → IsScript script → MayGoOn [] (first_world script.servers script.clients) (steps_of (first_world script.servers script.clients) script.events)
may_begin script fit =
    record {
      each = script_fits script fit;
      sound = worlds_sound.first script.servers script.clients fit.size.servers_fit.low (omega (arith, fit.size.servers_fit.high));
      facts = first_facts script.servers script.clients;
    }

-- a world is sound, and has the facts after these steps
pub record IsReached (past : List Turn) (world : World) : Type 0 where
  pub sound : IsSound world
  pub facts : AreFacts past world

begins_there : (past : List Turn) (world : World) (events : List Event) → MayGoOn past world events → IsReached (past ++ []) world
begins_there past world events may =
    record { sound = may.sound; facts = subst (λ p. AreFacts p world) (sym (append-nil past)) may.facts }

-- so is each world of a run
pub reached : (past : List Turn) (world : World) (events : List Event) → MayGoOn past world events → (i : ℕ)
    → IsReached (past ++ take i (run_from world events)) (world_after world (take i (run_from world events)))
reached past world [] may zero = begins_there past world [] may
reached past world [] may (suc i) = begins_there past world [] may
reached past world (event ∷ events) may zero = begins_there past world (event ∷ events) may
reached past world (event ∷ events) may (suc i) =
    let first = first_turn world event in
    let after = (step world event).after in
    let front = take i (run_from after events) in
    let later = reached (past ++ first ∷ []) after events (goes_on past world event events may) i in
    subst (λ p. IsReached p (world_after after front)) (append_assoc past (first ∷ []) front) later

pub world_reached : (script : Script) → IsScript script → (i : ℕ)
    → IsReached (take i (run_of script)) (world_after (first_world script.servers script.clients) (take i (run_of script)))
world_reached script fit i =
    let first = first_world script.servers script.clients in
    reached [] first (steps_of first script.events) (may_begin script fit) i

-- what a step of a run is: that of its event, from the world after the steps before it
pub record IsStepOf (world : World) (run : List Turn) (i : ℕ) (turn : Turn) : Type 0 where
  pub before : turn.before ≡ world_after world (take i run)
  pub outcome : turn.outcome ≡ step turn.before turn.event

pub step_at : (world : World) (events : List Event) (i : ℕ) (turn : Turn) → slice_get (run_from world events) i ≡ Some turn
    → IsStepOf world (run_from world events) i turn
step_at world [] i turn is = absurd (none-some turn is)
step_at world (event ∷ events) zero turn is =
    let same = same_Some (first_turn world event) turn is in
    subst (λ t. IsStepOf world (run_from world (event ∷ events)) zero t) same (record { before = refl; outcome = refl })
step_at world (event ∷ events) (suc i) turn is =
    let rest = step_at (step world event).after events i turn is in record { before = rest.before; outcome = rest.outcome }
