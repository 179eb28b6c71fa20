-- Steps of several events one after the other, and of lines that stand for several.
use Rattle.std.proofs.Common.{◌≡◌, ℕ, false, List, [], ◌∷◌, ◌++◌, refl, sym, ap, ◌∙◌}
use Rattle.std.specs.Prelude.{All}
use Rattle.std.proofs.lemmas.Bool.{false≢true}
use Rattle.std.proofs.lemmas.List.{append_assoc}
use Rattle.std.proofs.lemmas.List.Elements.{All-head, All-tail}
use Rattle.script_lang.specs.declared.script.Event.{Event}
use Rattle.script_lang.specs.declared.script.Event.TheVariants.{Round}
use Rattle.kr_world.specs.World.{World}
use Rattle.kr_world.specs.Step.{step}
use Rattle.kr_world.specs.Lines.{step_lines}
use Rattle.kr_world.specs.Run.{run_from, lines_from, lines_of, text_from}
use Rattle.kr_world.specs.Round.{after_all, plain_events, is_round, IsStep, after_line, steps_of}
use Rattle.kr_world.specs.Sound.{IsSound, HaveBegun}
use Rattle.kr_world.proofs.sound.SoundLemmas.{worlds_sound}
use Rattle.kr_world.proofs.steps.CountLemmas.{AsksNothing, queries_kept}

-- the world after some events and then others
pub after_all-append : (world : World) (xs ys : List Event) → after_all world (xs ++ ys) ≡ after_all (after_all world xs) ys
after_all-append world [] ys = refl
after_all-append world (x ∷ xs) ys = after_all-append (step world x).after xs ys

-- what is printed of some events, and then of others
pub lines_from-append : (world : World) (xs ys : List Event) → lines_from world (xs ++ ys) ≡ lines_from world xs ++ lines_from (after_all world xs) ys
lines_from-append world [] ys = refl
lines_from-append world (x ∷ xs) ys =
    let outcome = step world x in
    ap (λ lines. step_lines world outcome ++ lines) (lines_from-append outcome.after xs ys) ∙ sym (append_assoc (step_lines world outcome) (lines_from outcome.after xs) (lines_from (after_all outcome.after xs) ys))

-- the text of a run begins with what is printed of its first events
pub text_from-append : (world : World) (xs ys : List Event) → text_from world (run_from world (xs ++ ys)) ≡ lines_from world xs ++ text_from (after_all world xs) (run_from (after_all world xs) ys)
text_from-append world [] ys = refl
text_from-append world (x ∷ xs) ys =
    let outcome = step world x in
    let after = after_all outcome.after xs in
    ap (λ lines. step_lines world outcome ++ lines) (text_from-append outcome.after xs ys) ∙ sym (append_assoc (step_lines world outcome) (lines_from outcome.after xs) (text_from after (run_from after ys)))

-- and so with what is printed of its first line
pub text_of-line : (world : World) (event : Event) (events : List Event) → text_from world (run_from world (steps_of world (event ∷ events))) ≡ lines_of world event ++ text_from (after_line world event) (run_from (after_line world event) (steps_of (after_line world event) events))
text_of-line world event events =
    text_from-append world (plain_events world event) (steps_of (after_line world event) events)

-- a line that is no round is a step
pub plain_alone : (world : World) (event : Event) → is_round event ≡ false → plain_events world event ≡ event ∷ []
plain_alone world Round is = absurd (false≢true (sym is))
plain_alone world event is = refl

-- so where no line is a round, the plain steps are the lines
pub all_alone : (world : World) (events : List Event) → All IsStep events → steps_of world events ≡ events
all_alone world [] all = refl
all_alone world (event ∷ events) all =
    let alone = plain_alone world event (All-head IsStep event events all) in
    let next = after_line world event in
    ap (λ es. es ++ steps_of next events) alone ∙ ap (λ es. event ∷ es) (all_alone next events (All-tail IsStep event events all))

-- the world stays sound
pub after_all_sound : (world : World) (events : List Event) → IsSound world → IsSound (after_all world events)
after_all_sound world [] sound = sound
after_all_sound world (event ∷ events) sound =
    after_all_sound (step world event).after events (worlds_sound.later world event sound)

-- events of which none is a query begin none
pub after_all_kept : (n : ℕ) (world : World) (events : List Event) → All AsksNothing events → HaveBegun n world.clients → HaveBegun n (after_all world events).clients
after_all_kept n world [] none known = known
after_all_kept n world (event ∷ events) none known =
    after_all_kept n (step world event).after events (All-tail AsksNothing event events none) (queries_kept n world event (All-head AsksNothing event events none) known)
