-- What clients began in one more step.
use Rattle.std.proofs.Common.{◌≡◌, ◌≢◌, eqb, List, [], ◌∷◌, ◌++◌, refl, sym, ap, ◌∙◌}
use Rattle.std.specs.Prelude.{None, Some}
use Rattle.std.proofs.lemmas.Bool.{cond-true, cond-false, eq-eqb, ne_eqb}
use Rattle.std.proofs.lemmas.List.{append-nil, append_assoc}
use Rattle.kr_order.specs.declared.ids.ClientId.{ClientId}
use Rattle.kr_order.specs.declared.history.Command.{Command}
use Rattle.script_lang.specs.declared.script.Event.{Event}
use Rattle.script_lang.specs.declared.script.Event.TheVariants.{Call}
use Rattle.kr_world.specs.declared.refusal.Refusal.{Refusal}
use Rattle.kr_world.specs.Run.{Turn}
use Rattle.kr_world.specs.Lawful.{begins_by, begun_by}

pub begun_by-append : (caller : ClientId) (xs ys : List Turn)
    → begun_by caller (xs ++ ys) ≡ begun_by caller xs ++ begun_by caller ys
begun_by-append caller [] ys = refl
begun_by-append caller (x ∷ xs) ys =
    let begins = begins_by caller x.event x.outcome.refused in
    ap (λ b. begins ++ b) (begun_by-append caller xs ys) ∙ sym (append_assoc begins (begun_by caller xs) (begun_by caller ys))

pub begun_by-push : (caller : ClientId) (past : List Turn) (turn : Turn)
    → begun_by caller (past ++ turn ∷ []) ≡ begun_by caller past ++ begins_by caller turn.event turn.outcome.refused
begun_by-push caller past turn =
    begun_by-append caller past (turn ∷ []) ∙ ap (λ b. begun_by caller past ++ b) (append-nil (begins_by caller turn.event turn.outcome.refused))

-- a step in which the client begins no command
abbrev pub IsApart : Turn → ClientId → Type 0
IsApart turn caller = begins_by caller turn.event turn.outcome.refused ≡ []

-- a step in which no client begins one
pub record BeginsNone (turn : Turn) : Type 0 where
  pub apart : (caller : ClientId) → IsApart turn caller

-- a refused step begins no command
pub refused_begins : (caller : ClientId) (event : Event) (why : Refusal) → begins_by caller event (Some why) ≡ []
refused_begins caller (Call client command) why = refl
refused_begins caller event why = refl

-- a call is its caller's
pub others_begin : (caller other : ClientId) (command : Command) → caller.0 ≢ other.0
    → begins_by other (Call caller command) None ≡ []
others_begin caller other command different = cond-false (eqb caller.0 other.0) (command ∷ []) [] (ne_eqb caller.0 other.0 different)

pub caller_begins : (caller other : ClientId) (command : Command) → caller.0 ≡ other.0
    → begins_by other (Call caller command) None ≡ command ∷ []
caller_begins caller other command same = cond-true (eqb caller.0 other.0) (command ∷ []) [] (eq-eqb caller.0 other.0 same)

-- it has begun what it had begun before
pub begun_same : (caller : ClientId) (past : List Turn) (turn : Turn) → IsApart turn caller
    → begun_by caller (past ++ turn ∷ []) ≡ begun_by caller past
begun_same caller past turn none =
    begun_by-push caller past turn ∙ ap (λ b. begun_by caller past ++ b) none ∙ append-nil (begun_by caller past)
