-- The worked run meets what the law of rounds takes.
use Rattle.std.proofs.Common.{◌≡◌, Bool, true, false, not, ◌&&◌, List, [], ◌∷◌, refl, sym, ap, ◌∙◌}
use Rattle.std.specs.Prelude.{Option, None, Some}
use Rattle.std.proofs.lemmas.Bool.{and_parts, false≢true}
use Rattle.std.proofs.lemmas.List.Elements.{All-cons, All-nil}
use Rattle.kr_order.specs.declared.ids.ServerId.{ServerId}
use Rattle.script_lang.specs.declared.script.Event.{Event}
use Rattle.kr_world.specs.declared.refusal.Refusal.{Refusal}
use Rattle.kr_world.specs.declared.refusal.Refusal.TheVariants.{BagFull}
use Rattle.kr_world.specs.Round.{steps_of}
use Rattle.kr_world.specs.Rows.{create}
use Rattle.kr_world.specs.Step.{refusal_of, step}
use Rattle.kr_world.specs.World.{World, first_world, is_stopped}
use Rattle.kr_calm.specs.Calm.{HaveRoom, after_lines, enough_always, rounds}
use Rattle.kr_calm.specs.CalmRows.{TenRoundsAreCalm}

-- the step is refused for a full bag
abbrev finds_none : Option Refusal → Bool
finds_none None = false
finds_none (Some BagFull) = true
finds_none (Some other) = false

-- none of these is
abbrev have_room : World → List Event → Bool
have_room world [] = true
have_room world (event ∷ events) = not (finds_none (refusal_of world event)) && have_room (step world event).after events

room_of : (world : World) (events : List Event) → have_room world events ≡ true → HaveRoom world events
room_of world [] is = tt
room_of world (event ∷ events) is =
    let parts = and_parts (not (finds_none (refusal_of world event))) (have_room (step world event).after events) is in
    ((λ full. false≢true (sym (ap (λ refusal. not (finds_none refusal)) full) ∙ parts.0)), room_of (step world event).after events parts.1)

pub ten_are_calm : TenRoundsAreCalm
ten_are_calm =
    let world = after_lines (first_world 1 1) (create 1 ∷ []) in
    let first : ServerId = record { 0 = 1 } in
    record {
      calm = record { alone = refl; run = All-cons (λ id. is_stopped world id ≡ false) first [] refl (All-nil (λ (id : ServerId). is_stopped world id ≡ false)) };
      room = room_of world (steps_of world (rounds (enough_always 1))) refl;
    }
