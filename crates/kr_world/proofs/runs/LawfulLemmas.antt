-- Every run is lawful.
use Rattle.std.proofs.Common.{zero, suc, ◌≡◌, ℕ, ◌≤◌, List, [], ◌∷◌, ◌++◌, take, sym, ◌∙◌, subst, arith}
use Rattle.std.specs.Prelude.{Some, slice_get}
use Rattle.std.proofs.lemmas.List.{append-nil, append_assoc}
use Rattle.std.proofs.lemmas.List.Elements.{All-weaker}
use Rattle.std.proofs.lemmas.Option.{none-some, same_Some}
use Rattle.kr_order.specs.Prefix.{IsPrefix}
use Rattle.kr_order.proofs.PrefixLemmas.{IsPrefix-refl, IsPrefix-trans}
use Rattle.kr_order.proofs.PairsLemmas.{order_acyclic}
use Rattle.script_lang.specs.declared.script.Event.{Event}
use Rattle.kr_world.specs.World.{World, first_world}
use Rattle.kr_world.specs.Step.{step}
use Rattle.kr_world.specs.Round.{steps_of}
use Rattle.kr_world.specs.Run.{Turn, run_from, run_of}
use Rattle.kr_world.specs.Lawful.{IsNumbered, IsPartTrue, RunsAreLawful, begun_by, entries_of, history_after}
use Rattle.kr_world.proofs.steps.ListFacts.{take_with}
use Rattle.kr_world.proofs.queries.PartLemmas.{IsPassedOn, part_true}
use Rattle.kr_world.proofs.facts.KeepLemmas.{IsNewPart, Keeps}
use Rattle.kr_world.proofs.runs.RunLemmas.{MayGoOn, first_turn, first_kept, goes_on, may_begin}
use Rattle.kr_world.proofs.runs.InOrderLemmas.{told_in_order, sees_what_it_hears}

-- each step of a run, after those before it
run_keeps : (past : List Turn) (world : World) (events : List Event) → MayGoOn past world events → (i : ℕ)
    (turn : Turn) → slice_get (run_from world events) i ≡ Some turn
    → Keeps (past ++ take i (run_from world events)) turn
run_keeps past world [] may i turn is = absurd (none-some turn is)
run_keeps past world (event ∷ events) may zero turn is =
    subst (λ p. Keeps p turn) (sym (append-nil past)) (subst (λ t. Keeps past t) (same_Some (first_turn world event) turn is) (first_kept past world event events may))
run_keeps past world (event ∷ events) may (suc i) turn is =
    let first = first_turn world event in
    let after = (step world event).after in
    let later = run_keeps (past ++ first ∷ []) after events (goes_on past world event events may) i turn is in
    subst (λ p. Keeps p turn) (append_assoc past (first ∷ []) (take i (run_from after events))) later

-- histories grow from the first world of a run
grows_from : (past : List Turn) (world : World) (events : List Event) → MayGoOn past world events → (j : ℕ)
    (later : Turn) → slice_get (run_from world events) j ≡ Some later → IsPrefix world.history (history_after later)
grows_from past world [] may j later is = absurd (none-some later is)
grows_from past world (event ∷ events) may zero later is =
    subst (λ t. IsPrefix world.history (history_after t)) (same_Some (first_turn world event) later is) (first_kept past world event events may).tells.grows
grows_from past world (event ∷ events) may (suc j) later is =
    let first = first_turn world event in
    let after = (step world event).after in
    let rest = grows_from (past ++ first ∷ []) after events (goes_on past world event events may) j later is in
    IsPrefix-trans world.history after.history (history_after later) (first_kept past world event events may).tells.grows rest

-- and from each step on
run_grows : (past : List Turn) (world : World) (events : List Event) → MayGoOn past world events → (i j : ℕ)
    (earlier later : Turn) → i ≤ j → slice_get (run_from world events) i ≡ Some earlier
    → slice_get (run_from world events) j ≡ Some later → IsPrefix (history_after earlier) (history_after later)
run_grows past world [] may i j earlier later le is is' = absurd (none-some earlier is)
run_grows past world (event ∷ events) may zero zero earlier later le is is' =
    subst (λ t. IsPrefix (history_after earlier) (history_after t)) (same_Some earlier later (sym is ∙ is')) (IsPrefix-refl (history_after earlier))
run_grows past world (event ∷ events) may zero (suc j) earlier later le is is' =
    let first = first_turn world event in
    let rest = grows_from (past ++ first ∷ []) (step world event).after events (goes_on past world event events may) j later is' in
    subst (λ t. IsPrefix (history_after t) (history_after later)) (same_Some first earlier is) rest
run_grows past world (event ∷ events) may (suc i) zero earlier later le is is' = absurd (omega arith)
run_grows past world (event ∷ events) may (suc i) (suc j) earlier later le is is' =
    let first = first_turn world event in
    run_grows (past ++ first ∷ []) (step world event).after events (goes_on past world event events may) i j earlier later (omega arith) is is'

pub runs_lawful : RunsAreLawful
runs_lawful script fit =
    let run = run_of script in
    let first = first_world script.servers script.clients in
    let steps = steps_of first script.events in
    let may = may_begin script fit in
    let keeps = run_keeps [] first steps may in
    let grows = run_grows [] first steps may in
    record {
      one_place = record {
        grows = grows;
        numbered = λ i turn is caller.
            let known = (keeps i turn is).facts.in_step.numbered caller in
            subst (λ p. IsNumbered (begun_by caller p) (entries_of caller (history_after turn))) (sym (take_with run i turn is)) known;
      };
      told_reply = λ i turn is. (keeps i turn is).tells.told;
      acyclic = λ i turn is n. order_acyclic (take n (history_after turn));
      parts = λ i turn is.
          let on : IsPassedOn run i (history_after turn) = record { grows = λ j later le found. grows i j turn later le is found } in
          let New = IsNewPart turn.before (history_after turn) in
          All-weaker New (IsPartTrue run i turn) (λ part told. part_true run i turn part on told) turn.outcome.parts (keeps i turn is).tells.parts;
      in_order = told_in_order script fit;
      seen = sees_what_it_hears script fit;
    }
