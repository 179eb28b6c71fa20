-- What a batch does to an order: it only adds to it, and closes no cycle where no must contradicts.
use Rattle.std.proofs.Common.{◌≡◌, ℕ, ◌+◌, Bool, true, false, cond, eqb, ◌&&◌, ◌||◌, List, [], ◌∷◌, length, arith, refl, sym, subst}
use Rattle.std.specs.Prelude.{None, Some}
use Rattle.std.specs.List.{AllByRecursion, AllZip}
use Rattle.std.proofs.lemmas.Bool.{eqb-true, or_parts}
use Rattle.kr_order.specs.declared.batch.Pair.{Pair}
use Rattle.kr_order.specs.declared.batch.Outcome.{Outcome}
use Rattle.kr_order.specs.declared.batch.Outcome.TheVariants.{Kept, Reversed, Same}
use Rattle.kr_order.specs.Prefix.{IsPrefix}
use Rattle.kr_order.specs.Order.{reach, IsAcyclic}
use Rattle.kr_order.specs.Batch.{IsTrueOf, outcome_of, outcomes_from, outcomes_of, is_must, forbids, with_pair, with_must, with_prefer, musts_from, prefers_from, contradicts_from, contradicts, pairs_with}
use Rattle.kr_order.proofs.PrefixLemmas.{IsPrefix-refl, IsPrefix-trans, IsPrefix-fold}
use Rattle.kr_order.proofs.OrderLemmas.{reach_more, reach-add, IsPrefix-add, IsAcyclic-add}

pub IsPrefix-with_must : (order : List (ℕ × ℕ)) (pair : Pair) → IsPrefix order (with_must order pair)
IsPrefix-with_must order pair =
    elim (is_must pair.kind) as (λ must. IsPrefix order (cond must (with_pair order pair) order)) [ true ↦ IsPrefix-add order pair.first.0 pair.second.0 | false ↦ IsPrefix-refl order ]

pub IsPrefix-with_prefer : (order : List (ℕ × ℕ)) (pair : Pair) → IsPrefix order (with_prefer order pair)
IsPrefix-with_prefer order pair =
    elim (is_must pair.kind || forbids order pair) as (λ out. IsPrefix order (cond out order (with_pair order pair))) [ true ↦ IsPrefix-refl order | false ↦ IsPrefix-add order pair.first.0 pair.second.0 ]

-- a batch only adds to the order
pub IsPrefix-pairs_with : (order : List (ℕ × ℕ)) (batch : List Pair) → IsPrefix order (pairs_with order batch)
IsPrefix-pairs_with order batch =
    IsPrefix-trans order (musts_from order batch) (pairs_with order batch) (IsPrefix-fold with_must IsPrefix-with_must order batch) (IsPrefix-fold with_prefer IsPrefix-with_prefer (musts_from order batch) batch)

pub IsAcyclic-with_must : (order : List (ℕ × ℕ)) (pair : Pair) → IsAcyclic order → (is_must pair.kind && forbids order pair) ≡ false → IsAcyclic (with_must order pair)
IsAcyclic-with_must order pair acyclic = by_kind (is_must pair.kind)
  where
    by_kind : (must : Bool) → (must && forbids order pair) ≡ false → IsAcyclic (cond must (with_pair order pair) order)
    by_kind true allowed = IsAcyclic-add order pair.first.0 pair.second.0 acyclic allowed
    by_kind false allowed = acyclic

pub IsAcyclic-with_prefer : (order : List (ℕ × ℕ)) (pair : Pair) → IsAcyclic order → IsAcyclic (with_prefer order pair)
IsAcyclic-with_prefer order pair acyclic = by_test (is_must pair.kind || forbids order pair) refl
  where
    by_test : (out : Bool) → (is_must pair.kind || forbids order pair) ≡ out → IsAcyclic (cond out order (with_pair order pair))
    by_test true is = acyclic
    by_test false is = IsAcyclic-add order pair.first.0 pair.second.0 acyclic (or_parts (is_must pair.kind) (forbids order pair) is).1

pub IsAcyclic-musts_from : (i : ℕ) (order : List (ℕ × ℕ)) (batch : List Pair) → contradicts_from i order batch ≡ None → IsAcyclic order → IsAcyclic (musts_from order batch)
IsAcyclic-musts_from i order [] none acyclic = acyclic
IsAcyclic-musts_from i order (pair ∷ more) none acyclic =
    by_test (is_must pair.kind && forbids order pair) refl none (IsAcyclic-musts_from (i + 1) (with_must order pair) more)
  where
    by_test : (stops : Bool) → (is_must pair.kind && forbids order pair) ≡ stops → cond stops (Some i) (contradicts_from (i + 1) (with_must order pair) more) ≡ None → (contradicts_from (i + 1) (with_must order pair) more ≡ None → IsAcyclic (with_must order pair) → IsAcyclic (musts_from (with_must order pair) more)) → IsAcyclic (musts_from (with_must order pair) more)
    by_test true is none on = cc
    by_test false is none on = on none (IsAcyclic-with_must order pair acyclic is)

pub IsAcyclic-prefers_from : (order : List (ℕ × ℕ)) (batch : List Pair) → IsAcyclic order → IsAcyclic (prefers_from order batch)
IsAcyclic-prefers_from order [] acyclic = acyclic
IsAcyclic-prefers_from order (pair ∷ more) acyclic = IsAcyclic-prefers_from (with_prefer order pair) more (IsAcyclic-with_prefer order pair acyclic)

-- a batch whose musts don't contradict closes no cycle
pub IsAcyclic-pairs_with : (order : List (ℕ × ℕ)) (batch : List Pair) → contradicts order batch ≡ None → IsAcyclic order → IsAcyclic (pairs_with order batch)
IsAcyclic-pairs_with order batch none acyclic = IsAcyclic-prefers_from (musts_from order batch) batch (IsAcyclic-musts_from 0 order batch none acyclic)

-- the order says the pair if it is a must
abbrev HoldsIfMust : List (ℕ × ℕ) → Pair → Type 0
HoldsIfMust order pair = is_must pair.kind ≡ true → reach order pair.first.0 pair.second.0 ≡ true

must_holds : (order : List (ℕ × ℕ)) (pair : Pair) → HoldsIfMust (with_must order pair) pair
must_holds order pair must = subst (λ b. reach (cond b (with_pair order pair) order) pair.first.0 pair.second.0 ≡ true) (sym must) (reach-add order pair.first.0 pair.second.0)

-- musts that the order says stay so in a longer one
musts_stay : (old new : List (ℕ × ℕ)) (batch : List Pair) → IsPrefix old new → AllByRecursion (HoldsIfMust old) batch → AllByRecursion (HoldsIfMust new) batch
musts_stay old new [] front all = all
musts_stay old new (pair ∷ more) front all =
    (λ must. reach_more old new pair.first.0 pair.second.0 front (all.0 must), musts_stay old new more front all.1)

-- the order with all musts says each of them
musts_hold : (order : List (ℕ × ℕ)) (batch : List Pair) → AllByRecursion (HoldsIfMust (musts_from order batch)) batch
musts_hold order [] = tt
musts_hold order (pair ∷ more) =
    (λ must. reach_more (with_must order pair) (musts_from (with_must order pair) more) pair.first.0 pair.second.0 (IsPrefix-fold with_must IsPrefix-with_must (with_must order pair) more) (must_holds order pair must), musts_hold (with_must order pair) more)

-- an outcome is true of the order with its pair
outcome_true : (order : List (ℕ × ℕ)) (pair : Pair) → HoldsIfMust order pair → IsTrueOf (with_prefer order pair) pair (outcome_of order pair)
outcome_true order pair holds = by_test (is_must pair.kind) (eqb pair.first.0 pair.second.0) (reach order pair.second.0 pair.first.0) refl refl refl
  where
    by_test : (must same back : Bool) → is_must pair.kind ≡ must → eqb pair.first.0 pair.second.0 ≡ same → reach order pair.second.0 pair.first.0 ≡ back → IsTrueOf (cond (must || (same || back)) order (with_pair order pair)) pair (cond must Kept (cond same Same (cond back Reversed Kept)))
    by_test true same back must _ _ = holds must
    by_test false true back _ same _ = eqb-true pair.first.0 pair.second.0 same
    by_test false false true _ _ back = back
    by_test false false false _ _ _ = reach-add order pair.first.0 pair.second.0

-- what an outcome says stays so in a longer order
outcome_stays : (old new : List (ℕ × ℕ)) (pair : Pair) (outcome : Outcome) → IsPrefix old new → IsTrueOf old pair outcome → IsTrueOf new pair outcome
outcome_stays old new pair Kept front path = reach_more old new pair.first.0 pair.second.0 front path
outcome_stays old new pair Reversed front path = reach_more old new pair.second.0 pair.first.0 front path
outcome_stays old new pair Same front same = same

outcomes_from-true : (order : List (ℕ × ℕ)) (batch : List Pair) → AllByRecursion (HoldsIfMust order) batch → AllZip (IsTrueOf (prefers_from order batch)) batch (outcomes_from order batch)
outcomes_from-true order [] all = tt
outcomes_from-true order (pair ∷ more) all =
    let next = with_prefer order pair in
    (outcome_stays next (prefers_from next more) pair (outcome_of order pair) (IsPrefix-fold with_prefer IsPrefix-with_prefer next more) (outcome_true order pair all.0), outcomes_from-true next more (musts_stay order next more (IsPrefix-with_prefer order pair) all.1))

-- each outcome of a batch is true of the order with the batch
pub outcomes_of-true : (order : List (ℕ × ℕ)) (batch : List Pair) → AllZip (IsTrueOf (pairs_with order batch)) batch (outcomes_of order batch)
outcomes_of-true order batch = outcomes_from-true (musts_from order batch) batch (musts_hold order batch)
