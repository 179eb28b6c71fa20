-- Two orders with the same paths between the events of a batch: the batch does the same with both.
use Rattle.std.proofs.Common.{◌≡◌, ℕ, ◌+◌, Bool, true, false, cond, eqb, ◌&&◌, ◌||◌, List, [], ◌∷◌, ◌++◌, refl, sym, ap, ◌∙◌, subst, append_assoc}
use Rattle.std.specs.Prelude.{Option, None, Some}
use Rattle.std.specs.List.{AllByRecursion}
use Rattle.std.proofs.lemmas.List.{append-nil}
use Rattle.kr_order.specs.declared.batch.Pair.{Pair}
use Rattle.kr_order.specs.declared.batch.Outcome.{Outcome}
use Rattle.kr_order.specs.declared.batch.Outcome.TheVariants.{Kept, Reversed, Same}
use Rattle.kr_order.specs.Order.{reach, add}
use Rattle.kr_order.specs.Batch.{is_must, forbids, with_pair, with_must, with_prefer, musts_from, prefers_from, contradicts_from, contradicts, pairs_with, outcome_of, outcomes_from, outcomes_of}
use Rattle.kr_order.proofs.OrderLemmas.{reach-push}

-- both orders have the same paths between events that pass the test
pub record Agree (test : ℕ → Bool) (one two : List (ℕ × ℕ)) : Type 0 where
  pub paths : (a b : ℕ) → test a ≡ true → test b ≡ true → reach one a b ≡ reach two a b

-- both events of the pair pass the test
pub record IsOver (test : ℕ → Bool) (pair : ℕ × ℕ) : Type 0 where
  pub first : test pair.0 ≡ true
  pub second : test pair.1 ≡ true

-- so do those of a pair of a batch
abbrev pub IsPairOver : (ℕ → Bool) → Pair → Type 0
IsPairOver test pair = IsOver test (pair.first.0, pair.second.0)

-- two orders have become longer by the same pairs of events that pass the test, and agree
pub record GrowAlike (test : ℕ → Bool) (one two one' two' : List (ℕ × ℕ)) : Type 0 where
  pub adds : List (ℕ × ℕ)
  pub first : one' ≡ one ++ adds
  pub second : two' ≡ two ++ adds
  pub over : AllByRecursion (IsOver test) adds
  pub agree : Agree test one' two'

Agree-push : (test : ℕ → Bool) (one two : List (ℕ × ℕ)) (x y : ℕ) → test x ≡ true → test y ≡ true → Agree test one two →
    Agree test (one ++ (x, y) ∷ []) (two ++ (x, y) ∷ [])
Agree-push test one two x y tx ty agree =
    record {
      paths = λ a b ta tb.
          let p = reach-push one x y a b in
          let q = reach-push two x y a b in
          let ab = agree.paths a b ta tb in
          let ax = agree.paths a x ta tx in
          let yb = agree.paths y b ty tb in
          cc;
    }

over-push : (test : ℕ → Bool) (pairs : List (ℕ × ℕ)) (pair : ℕ × ℕ) → AllByRecursion (IsOver test) pairs →
    IsOver test pair → AllByRecursion (IsOver test) (pairs ++ pair ∷ [])
over-push test [] pair all one = (one, tt)
over-push test (old ∷ pairs) pair all one = (all.0, over-push test pairs pair all.1 one)

GrowAlike-refl : (test : ℕ → Bool) (one two : List (ℕ × ℕ)) → Agree test one two → GrowAlike test one two one two
GrowAlike-refl test one two agree =
    record { adds = []; first = sym (append-nil one); second = sym (append-nil two); over = tt; agree = agree }

GrowAlike-add : (test : ℕ → Bool) (one two one' two' : List (ℕ × ℕ)) (x y : ℕ) →
    IsOver test (x, y) → GrowAlike test one two one' two' → GrowAlike test one two (add one' x y) (add two' x y)
GrowAlike-add test one two one' two' x y over grown = by_test (reach one' x y) (reach two' x y) (grown.agree.paths x y over.first over.second)
  where
    by_test : (said said' : Bool) → said ≡ said' →
        GrowAlike test one two (cond said one' (one' ++ (x, y) ∷ [])) (cond said' two' (two' ++ (x, y) ∷ []))
    by_test true true same = grown
    by_test true false same = cc
    by_test false true same = cc
    by_test false false same =
        record {
          adds = grown.adds ++ (x, y) ∷ [];
          first = ap (λ l. l ++ (x, y) ∷ []) grown.first ∙ append_assoc one grown.adds ((x, y) ∷ []);
          second = ap (λ l. l ++ (x, y) ∷ []) grown.second ∙ append_assoc two grown.adds ((x, y) ∷ []);
          over = over-push test grown.adds (x, y) grown.over over;
          agree = Agree-push test one' two' x y over.first over.second grown.agree;
        }

-- both orders forbid the same pairs
forbids-same : (test : ℕ → Bool) (one two : List (ℕ × ℕ)) (pair : Pair) → IsPairOver test pair → Agree test one two →
    forbids one pair ≡ forbids two pair
forbids-same test one two pair over agree = ap (λ back. eqb pair.first.0 pair.second.0 || back) (agree.paths pair.second.0 pair.first.0 over.second over.first)

GrowAlike-with_must : (test : ℕ → Bool) (one two one' two' : List (ℕ × ℕ)) (pair : Pair) → IsPairOver test pair →
    GrowAlike test one two one' two' → GrowAlike test one two (with_must one' pair) (with_must two' pair)
GrowAlike-with_must test one two one' two' pair over grown =
    elim (is_must pair.kind) as (λ must. GrowAlike test one two (cond must (with_pair one' pair) one') (cond must (with_pair two' pair) two')) [ true ↦ GrowAlike-add test one two one' two' pair.first.0 pair.second.0 over grown | false ↦ grown ]

GrowAlike-with_prefer : (test : ℕ → Bool) (one two one' two' : List (ℕ × ℕ)) (pair : Pair) → IsPairOver test pair →
    GrowAlike test one two one' two' → GrowAlike test one two (with_prefer one' pair) (with_prefer two' pair)
GrowAlike-with_prefer test one two one' two' pair over grown =
    by_test (is_must pair.kind || forbids one' pair) (is_must pair.kind || forbids two' pair) (ap (λ b. is_must pair.kind || b) (forbids-same test one' two' pair over grown.agree))
  where
    by_test : (out out' : Bool) → out ≡ out' →
        GrowAlike test one two (cond out one' (with_pair one' pair)) (cond out' two' (with_pair two' pair))
    by_test true true same = grown
    by_test true false same = cc
    by_test false true same = cc
    by_test false false same = GrowAlike-add test one two one' two' pair.first.0 pair.second.0 over grown

GrowAlike-musts : (test : ℕ → Bool) (one two one' two' : List (ℕ × ℕ)) (batch : List Pair) →
    AllByRecursion (IsPairOver test) batch → GrowAlike test one two one' two' →
    GrowAlike test one two (musts_from one' batch) (musts_from two' batch)
GrowAlike-musts test one two one' two' [] over grown = grown
GrowAlike-musts test one two one' two' (pair ∷ more) over grown =
    GrowAlike-musts test one two (with_must one' pair) (with_must two' pair) more over.1 (GrowAlike-with_must test one two one' two' pair over.0 grown)

GrowAlike-prefers : (test : ℕ → Bool) (one two one' two' : List (ℕ × ℕ)) (batch : List Pair) →
    AllByRecursion (IsPairOver test) batch → GrowAlike test one two one' two' →
    GrowAlike test one two (prefers_from one' batch) (prefers_from two' batch)
GrowAlike-prefers test one two one' two' [] over grown = grown
GrowAlike-prefers test one two one' two' (pair ∷ more) over grown =
    GrowAlike-prefers test one two (with_prefer one' pair) (with_prefer two' pair) more over.1 (GrowAlike-with_prefer test one two one' two' pair over.0 grown)

contradicts_from-same : (test : ℕ → Bool) (i : ℕ) (one two : List (ℕ × ℕ)) (batch : List Pair) →
    AllByRecursion (IsPairOver test) batch → Agree test one two →
    contradicts_from i one batch ≡ contradicts_from i two batch
contradicts_from-same test i one two [] over agree = refl
contradicts_from-same test i one two (pair ∷ more) over agree =
    let here : (is_must pair.kind && forbids one pair) ≡ (is_must pair.kind && forbids two pair) = ap (λ b. is_must pair.kind && b) (forbids-same test one two pair over.0 agree) in
    let next = GrowAlike-with_must test one two one two pair over.0 (GrowAlike-refl test one two agree) in
    let rest = contradicts_from-same test (i + 1) (with_must one pair) (with_must two pair) more over.1 next.agree in
    ap (λ b. cond b (Some i) (contradicts_from (i + 1) (with_must one pair) more)) here ∙
    ap (λ r. cond (is_must pair.kind && forbids two pair) (Some i) r) rest

outcome_of-same : (test : ℕ → Bool) (one two : List (ℕ × ℕ)) (pair : Pair) → IsPairOver test pair → Agree test one two →
    outcome_of one pair ≡ outcome_of two pair
outcome_of-same test one two pair over agree =
    ap (λ back. cond (is_must pair.kind) Kept (cond (eqb pair.first.0 pair.second.0) Same (cond back Reversed Kept))) (agree.paths pair.second.0 pair.first.0 over.second over.first)

outcomes_from-same : (test : ℕ → Bool) (one two : List (ℕ × ℕ)) (batch : List Pair) →
    AllByRecursion (IsPairOver test) batch → Agree test one two → outcomes_from one batch ≡ outcomes_from two batch
outcomes_from-same test one two [] over agree = refl
outcomes_from-same test one two (pair ∷ more) over agree =
    let next = GrowAlike-with_prefer test one two one two pair over.0 (GrowAlike-refl test one two agree) in
    let here = outcome_of-same test one two pair over.0 agree in
    let rest = outcomes_from-same test (with_prefer one pair) (with_prefer two pair) more over.1 next.agree in
    ap (λ o. o ∷ outcomes_from (with_prefer one pair) more) here ∙ ap (λ l. outcome_of two pair ∷ l) rest

-- both orders refuse a batch at the same must
pub contradicts-same : (test : ℕ → Bool) (one two : List (ℕ × ℕ)) (batch : List Pair) →
    AllByRecursion (IsPairOver test) batch → Agree test one two → contradicts one batch ≡ contradicts two batch
contradicts-same test one two batch over agree = contradicts_from-same test 0 one two batch over agree

-- a batch makes both orders longer by the same pairs
pub GrowAlike-pairs_with : (test : ℕ → Bool) (one two : List (ℕ × ℕ)) (batch : List Pair) →
    AllByRecursion (IsPairOver test) batch → Agree test one two →
    GrowAlike test one two (pairs_with one batch) (pairs_with two batch)
GrowAlike-pairs_with test one two batch over agree =
    GrowAlike-prefers test one two (musts_from one batch) (musts_from two batch) batch over (GrowAlike-musts test one two one two batch over (GrowAlike-refl test one two agree))

-- and its pairs have the same outcomes
pub outcomes_of-same : (test : ℕ → Bool) (one two : List (ℕ × ℕ)) (batch : List Pair) →
    AllByRecursion (IsPairOver test) batch → Agree test one two → outcomes_of one batch ≡ outcomes_of two batch
outcomes_of-same test one two batch over agree =
    outcomes_from-same test (musts_from one batch) (musts_from two batch) batch over (GrowAlike-musts test one two one two batch over (GrowAlike-refl test one two agree)).agree
