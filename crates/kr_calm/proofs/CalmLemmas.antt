-- Every run of a script is calm.
use Rattle.kr_calm.proofs.RoomLemmas.{rounds_done}
use Rattle.std.proofs.Common.{List, [], arith, eqb, false, length, refl, subst, sym, ℕ, ◌++◌, ◌+◌, ◌-◌, ◌∷◌, ◌≡◌, ◌≤◌}
use Rattle.std.specs.Prelude.{All}
use Rattle.std.proofs.lemmas.Bool.{eqb-true}
use Rattle.std.proofs.lemmas.List.Elements.{All-cons, All-head, All-nil, All-tail}
use Rattle.kr_protocol.proofs.NameLemmas.{same_server}
use Rattle.script_lang.specs.Event.{IsEvent}
use Rattle.script_lang.specs.Script.{IsScript}
use Rattle.script_lang.specs.declared.script.Script.{Script}
use Rattle.kr_world.proofs.rounds.RoundEventLemmas.{steps_fit}
use Rattle.kr_world.proofs.steps.StepLemmas.{at_index}
use Rattle.kr_world.specs.Round.{steps_of}
use Rattle.kr_world.specs.World.{World, first_world, is_stopped}
use Rattle.kr_calm.proofs.LiveLemmas.{place_of}
use Rattle.kr_calm.proofs.MemberLemmas.{raised}
use Rattle.kr_calm.proofs.ReachedLemmas.{InCalm, IsReached, first_reached, steps_reached}
use Rattle.kr_calm.proofs.SumLemmas.{rounds_answer}
use Rattle.kr_calm.specs.Calm.{AnswersIn, IsAnswered, IsCalm, IsCalmBy, RunsAreCalm, after_lines, enough, enough_always, rounds}

left_of : {X : Type 0} (P : X → Type 0) (xs ys : List X) → All P (xs ++ ys) → All P xs
left_of P [] ys all = All-nil P
left_of P (x ∷ xs) ys all = All-cons P x xs (All-head P x (xs ++ ys) all) (left_of P xs ys (All-tail P x (xs ++ ys) all))

-- a world of a run that is calm
calm_world : (world : World) → IsReached world → IsCalm world → InCalm world.manager.current world
calm_world world reached calm = record {
  reached = reached;
  current = refl;
  alone = calm.alone;
  runs = λ id member.
      let place = place_of (λ one. eqb one.0 id.0) world.manager.current.chain member in
      let same : place.1 ≡ id = same_server place.1 id (eqb-true place.1.0 id.0 place.3) in
      subst (λ s. is_stopped world s ≡ false) same (at_index (λ one. is_stopped world one ≡ false) world.manager.current.chain place.0 place.1 calm.run place.2);
}

-- so many rounds are enough, and more are
pub answers_in : (world : World) → IsReached world → IsCalm world → (n : ℕ) → enough (length world.manager.current.chain) ≤ n → AnswersIn n world
answers_in world reached calm n le room =
    let view = world.manager.current in
    let inside = calm_world world reached calm in
    let some = (raised view world inside).rising.some in
    let N = length view.chain - 1 in
    let size : length view.chain ≡ N + 1 = omega arith in
    let done = rounds_done n world room in
    let most : enough (N + 1) ≤ n = subst (λ k. enough k ≤ n) size le in
    subst IsAnswered (sym done.after) (rounds_answer view N size world inside n most done.room)

calm_by : (count : ℕ → ℕ) → ((members : ℕ) → enough members ≤ count members) → (script : Script) → IsScript script → IsCalmBy count script
calm_by count more script fit before rest is calm room =
    let first = first_world script.servers script.clients in
    let reached = first_reached script fit in
    let world = after_lines first before in
    let n = count (length world.manager.current.chain) in
    let lines : All IsEvent before = left_of IsEvent before (rounds n ++ rest) (subst (All IsEvent) is fit.each) in
    let now = steps_reached first (steps_of first before) (steps_fit first reached.sound reached.few before lines) reached in
    answers_in world now calm n (more (length world.manager.current.chain)) room

pub runs_calm : RunsAreCalm
runs_calm script fit = record {
  always = calm_by enough_always (λ members. omega arith) script fit;
  sharp = calm_by enough (λ members. omega arith) script fit;
}
