-- The clients of a run, before and after their calls.
use Rattle.std.specs.Prelude.{◌≡◌, ◌≤◌, ◌+◌, ℕ, false, List, [], ◌∷◌, ◌++◌, All, map}
use Rattle.kr_order.specs.declared.ids.ClientId.{ClientId}
use Rattle.script_lang.specs.declared.live.LiveCall.{LiveCall}
use Rattle.live_service.specs.declared.calls.LiveAnswer.{LiveAnswer}
use Rattle.live_service.specs.declared.run.Caller.{Caller}
use Rattle.live_service.specs.Views.{ServiceId, PassView}
use Rattle.live_service.specs.Lawful.{own_call, calls_of}
use Rattle.live_service.specs.Calls.{HasCalled}

-- the client made these calls, and was answered
abbrev pub IsBehind : List LiveCall → Caller → Type 0
IsBehind calls caller = HasCalled caller.pass calls caller.answers

-- a client with a pass of this service, which made no more commands than calls
pub record IsCaller (id : ServiceId) (caller : Caller) : Type 0 where
  pub service : caller.pass.service ≡ id
  pub made : caller.pass.made ≤ caller.number

-- a client that made no call yet
pub record IsFresh (id : ServiceId) (caller : Caller) : Type 0 where
  pub service : caller.pass.service ≡ id
  pub none : caller.number ≡ 0
  pub made : caller.pass.made ≡ 0
  pub behind : IsBehind [] caller

-- clients numbered from this number on
abbrev pub AreNumbered : ℕ → List Caller → Type 0
AreNumbered number [] = Unit {0}
AreNumbered number (caller ∷ more) = (caller.pass.client.0 ≡ number) × AreNumbered (number + 1) more

-- a client that made its calls, as far as there was memory for them
pub record IsRun (id : ServiceId) (calls : List (ClientId × LiveCall)) (caller : Caller) : Type 0 where
  pub service : caller.pass.service ≡ id
  pub behind : caller.failed ≡ false → IsBehind (calls_of caller.pass.client calls) caller

abbrev pub passes_of : List Caller → List PassView
passes_of callers = map (λ (caller : Caller). caller.pass) callers

abbrev pub answers_of : List Caller → List (List LiveAnswer)
answers_of callers = map (λ (caller : Caller). caller.answers) callers

-- there was memory for all calls of the client
abbrev pub HasEnough : Caller → Type 0
HasEnough caller = caller.failed ≡ false
