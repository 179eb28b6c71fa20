-- Batches whose events all are live.
use Rattle.std.proofs.Common.{◌≡◌, ℕ, ◌+◌, Bool, false, cond, not, ltb, ◌&&◌, List, [], ◌∷◌, refl, sym, ap, ◌∙◌}
use Rattle.std.specs.Prelude.{None, Some}
use Rattle.std.specs.List.{AllByRecursion, position_from}
use Rattle.std.proofs.lemmas.Bool.{and_parts, ltb-true, not-false}
use Rattle.std.proofs.lemmas.Iterator.Adapters.{position_from-zero}
use Rattle.std.proofs.lemmas.List.Elements.{All-from_recursion}
use Rattle.kr_order.specs.declared.batch.Pair.{Pair}
use Rattle.kr_order.specs.Agreed.{Agreed, is_live, both_live, first_unknown}
use Rattle.kr_order.proofs.BornLemmas.{no_position}
use Rattle.ref_collect.specs.Counts.{count_of}
use Rattle.batch_assign.specs.Plan.{counted, LiveAreHeld, IsPairHeld, IsBatchHeld}

-- tests that agree on each item find the same first index
position_from-same : {X : Type 0} (p q : X → Bool) → ((x : X) → p x ≡ q x) → (i : ℕ) (xs : List X) → position_from p i xs ≡ position_from q i xs
position_from-same p q same i [] = refl
position_from-same p q same i (x ∷ xs) =
    let here = same x in
    let rest = position_from-same p q same (i + 1) xs in
    ap (λ b. cond b (Some i) (position_from p (i + 1) xs)) here ∙ ap (λ r. cond (q x) (Some i) r) rest

-- where each event has the same references, the first unknown event is the same
pub first_unknown-same : (a b : Agreed) (batch : List Pair) → ((event : ℕ) → a.count event ≡ b.count event) → first_unknown a batch ≡ first_unknown b batch
first_unknown-same a b batch same =
    let in_a : Pair → Bool = λ pair. not (both_live a pair.first.0 pair.second.0) in
    let in_b : Pair → Bool = λ pair. not (both_live b pair.first.0 pair.second.0) in
    let each : (pair : Pair) → in_a pair ≡ in_b pair = λ pair. ap (λ n. not (ltb 0 n && is_live a pair.second.0)) (same pair.first.0) ∙ ap (λ n. not (is_live b pair.first.0 && ltb 0 n)) (same pair.second.0) in
    position_from-zero in_a batch ∙ position_from-same in_a in_b each 0 batch ∙ sym (position_from-zero in_b batch)

-- the events of a batch of live events are held, where each live event is
pub IsBatchHeld-known : (counts : List (ℕ × ℕ)) (vertices : List ℕ) (batch : List Pair) → LiveAreHeld counts vertices → first_unknown (counted counts) batch ≡ None → IsBatchHeld vertices batch
IsBatchHeld-known counts vertices batch live none =
    All-from_recursion (IsPairHeld vertices) batch (each batch (no_position unknown 0 batch (sym (position_from-zero unknown batch) ∙ none)))
  where
    unknown : Pair → Bool
    unknown pair = not (both_live (counted counts) pair.first.0 pair.second.0)

    held : (pair : Pair) → unknown pair ≡ false → IsPairHeld vertices pair
    held pair known =
        let both = and_parts (is_live (counted counts) pair.first.0) (is_live (counted counts) pair.second.0) (not-false (both_live (counted counts) pair.first.0 pair.second.0) known) in
        record {
          first = live pair.first.0 (ltb-true 0 (count_of counts pair.first.0) both.0);
          second = live pair.second.0 (ltb-true 0 (count_of counts pair.second.0) both.1);
        }

    each : (pairs : List Pair) → AllByRecursion (λ pair. unknown pair ≡ false) pairs → AllByRecursion (IsPairHeld vertices) pairs
    each [] all = tt
    each (pair ∷ more) all = (held pair all.0, each more all.1)
