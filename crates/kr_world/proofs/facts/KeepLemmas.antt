-- What a step keeps: it leaves the facts, lets the history grow, and what it tells is true and new.
use Rattle.std.proofs.Common.{◌≡◌, List, [], ◌∷◌, ◌++◌, refl, ap, subst}
use Rattle.std.specs.Prelude.{None, All}
use Rattle.std.proofs.lemmas.List.Elements.{All-nil}
use Rattle.kr_order.specs.declared.ids.ClientId.{ClientId}
use Rattle.kr_order.specs.declared.history.Entry.{Entry}
use Rattle.kr_order.specs.Prefix.{IsPrefix}
use Rattle.kr_order.proofs.PrefixLemmas.{IsPrefix-refl}
use Rattle.script_lang.specs.declared.script.Event.{Event}
use Rattle.kr_world.specs.declared.refusal.Refusal.{Refusal}
use Rattle.kr_world.specs.World.{World, client_at}
use Rattle.kr_world.specs.Step.{Told, Part, Outcome, quiet, refuses}
use Rattle.kr_world.specs.Run.{Turn}
use Rattle.kr_world.specs.Lawful.{IsToldTruly, begins_by, seen_of}
use Rattle.kr_world.specs.Facts.{IsToldPart, AreFacts}
use Rattle.kr_world.proofs.packets.PastLemmas.{BeginsNone, refused_begins}
use Rattle.kr_world.proofs.facts.FactLemmas.{later_facts}

-- the turn that an event makes
abbrev pub turn_of : World → Event → Outcome → Turn
turn_of world event outcome = record { before = world; event = event; outcome = outcome }

-- a reply that is told is true by the history, and new to a client of this world
abbrev pub IsNewReply : World → List Entry → Told → Type 0
IsNewReply world history told = IsToldTruly history (seen_of (client_at world told.client)) told

-- so is a part
abbrev pub IsNewPart : World → List Entry → Part → Type 0
IsNewPart world history part = IsToldPart history (seen_of (client_at world part.client)) part.part

-- what a step does lets the history grow, and what it tells is true and new
pub record TellsTruly (world : World) (outcome : Outcome) : Type 0 where
  pub grows : IsPrefix world.history outcome.after.history
  pub told : All (IsNewReply world outcome.after.history) outcome.told
  pub parts : All (IsNewPart world outcome.after.history) outcome.parts

-- what a step does that is not refused and begins no command: it keeps the facts, and tells the truth
pub record GoesOn (past : List Turn) (world : World) (outcome : Outcome) : Type 0 where
  pub taken : outcome.refused ≡ None
  pub facts : (turn : Turn) → turn.outcome ≡ outcome → BeginsNone turn → AreFacts (past ++ turn ∷ []) outcome.after
  pub tells : TellsTruly world outcome

-- a step after these steps keeps the facts, and tells the truth
pub record Keeps (past : List Turn) (turn : Turn) : Type 0 where
  pub facts : AreFacts (past ++ turn ∷ []) turn.outcome.after
  pub tells : TellsTruly turn.before turn.outcome

-- what tells nothing
pub tells_nothing : (world : World) (outcome : Outcome) → outcome.told ≡ [] → outcome.parts ≡ []
    → IsPrefix world.history outcome.after.history → TellsTruly world outcome
tells_nothing world outcome none no_parts front =
    let history = outcome.after.history in
    record {
      grows = front;
      told = rw none (All-nil (IsNewReply world history));
      parts = rw no_parts (All-nil (IsNewPart world history));
    }

-- the facts of what a step leaves are there after it
pub facts_after : (past : List Turn) (outcome : Outcome) → AreFacts past outcome.after → (turn : Turn)
    → turn.outcome ≡ outcome → BeginsNone turn → AreFacts (past ++ turn ∷ []) outcome.after
facts_after past outcome facts turn same none = later_facts past turn outcome.after none (ap (λ (o : Outcome). o.after.clients) same) facts

-- what changes no history and tells nothing goes on
pub quiet_goes_on : (past : List Turn) (world after : World) → world.history ≡ after.history → AreFacts past after
    → GoesOn past world (quiet after)
quiet_goes_on past world after same facts =
    record {
      taken = refl;
      facts = facts_after past (quiet after) facts;
      tells = tells_nothing world (quiet after) refl refl (subst (IsPrefix world.history) same (IsPrefix-refl world.history));
    }

pub goes_on_keeps : (past : List Turn) (world : World) (event : Event) (outcome : Outcome)
    → ((caller : ClientId) → begins_by caller event None ≡ [])
    → GoesOn past world outcome → Keeps past (turn_of world event outcome)
goes_on_keeps past world event outcome commands on =
    let turn = turn_of world event outcome in
    let none : BeginsNone turn = record { apart = λ caller. rw on.taken (commands caller) } in
    record { facts = on.facts turn refl none; tells = on.tells }

pub refused_keeps : (past : List Turn) (world : World) (event : Event) (why : Refusal) → AreFacts past world
    → Keeps past (turn_of world event (refuses world why))
refused_keeps past world event why facts =
    let turn = turn_of world event (refuses world why) in
    let none : BeginsNone turn = record { apart = λ caller. refused_begins caller event why } in
    record {
      facts = later_facts past turn world none refl facts;
      tells = tells_nothing world (refuses world why) refl refl (IsPrefix-refl world.history);
    }
