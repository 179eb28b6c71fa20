-- What a step of a cluster does.
use Rattle.std.specs.Prelude.{◌≡◌, ℕ, ◌+◌, min, List, [], ◌∷◌, ◌++◌, true, false, Result, Ok, Err}
use Rattle.kr_order.specs.declared.ids.NoMemory.{NoMemory}
use Rattle.script_lang.specs.declared.script.Event.{Event}
use Rattle.kr_world.specs.Step.{step}
use Rattle.kr_world.specs.Round.{plain_events}
use Rattle.kr_world.specs.Run.{lines_from}
use Rattle.kr_world.specs.Counts.{befores_of}
use Rattle.cluster_sim.specs.ClusterStanding.{ClusterStanding}

-- so many, as far as a number of the code goes
abbrev pub counted : ℕ → ℕ
counted n = min n 18446744073709551615

-- the cluster after one plain step of the world
abbrev pub after_step : ClusterStanding → Event → ClusterStanding
after_step old event =
    let outcome = step old.world event in
    record { world = outcome.after; failed = false; befores = counted (old.befores + befores_of outcome.parts) }

-- and after the plain steps of these events, one after the other
abbrev pub after_steps : ClusterStanding → List Event → ClusterStanding
after_steps old [] = old
after_steps old (event ∷ events) = after_steps (after_step old event) events

-- the cluster did these plain steps of the world, and their lines came behind those that were there
pub record DoesSteps (old : ClusterStanding) (events : List Event) (before : List ℕ) (new : ClusterStanding) (after : List ℕ) : Type 0 where
  pub whole : old.failed ≡ false
  pub stepped : new ≡ after_steps old events
  pub lines : after ≡ before ++ lines_from old.world events

abbrev pub DoesAll : {U : Type 0} → ClusterStanding → List Event → List ℕ → Result U NoMemory → ClusterStanding → List ℕ → Type 0
DoesAll old events before (Ok done) new after = DoesSteps old events before new after
DoesAll old events before (Err stop) new after = new.failed ≡ true

-- the same of the plain steps of a line
abbrev pub StepsOnto : {U : Type 0} → ClusterStanding → Event → List ℕ → Result U NoMemory → ClusterStanding → List ℕ → Type 0
StepsOnto old event before result new after = DoesAll old (plain_events old.world event) before result new after

-- the cluster did the plain steps of a line, and their lines were answered
abbrev pub Steps : ClusterStanding → Event → Result (List ℕ) NoMemory → ClusterStanding → Type 0
Steps old event (Ok lines) new = DoesSteps old (plain_events old.world event) [] new lines
Steps old event (Err stop) new = new.failed ≡ true
