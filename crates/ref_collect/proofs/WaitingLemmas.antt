-- Which events without a predecessor wait to be looked at, as one of them is looked at.
use Rattle.std.proofs.Common.{◌≡◌, ◌⊎◌, ℕ, ◌+◌, ◌-◌, ◌<◌, ◌≤◌, Bool, true, false, not, cond, eqb, suc, zero, ◌&&◌, ◌||◌, List, [], ◌∷◌, ◌++◌, length, get_or, refl, sym, ap, ◌∙◌, subst, inl, inr, arith, length-append}
use Rattle.std.specs.Prelude.{map, reverse}
use Rattle.std.specs.List.{All, AllPairs, AllByRecursion, filter, list_any, sum_by}
use Rattle.std.proofs.lemmas.Bool.{both_ways, cases_eq, eq-eqb, eqb-true, eqb-false, ne_eqb, and_from, and_parts, or_cases, or_left, or_right, or_from, not-true, true_from_ne_false}
use Rattle.std.proofs.lemmas.List.{append-nil, get_or_append_left, get_or-append-add, length-map, length_push, get_or_push}
use Rattle.std.proofs.lemmas.List.Elements.{filter_passes, All-filter, All-map, All-append, All-nil, recursion_from_All, All-from_recursion}
use Rattle.std.proofs.lemmas.List.Kept.{AllPairs-cons, AllPairs-filter}
use Rattle.std.proofs.lemmas.List.Quantifiers.{all_pairs_push}
use Rattle.std.proofs.lemmas.List.Folds.{list_any_at, list_any-append, list_any_none}
use Rattle.std.proofs.lemmas.List.Sums.{get_or-le-sum_by, count_by-le-length, length-filter}
use Rattle.std.proofs.lemmas.List.Filters.{length-filter_both}
use Rattle.dep_graph.specs.GraphView.{is_held, has_pair, outs_of, ins_of, without, pairs_without, bared_by}
use Rattle.dep_graph.proofs.ChainLemmas.{All-reverse}
use Rattle.dep_graph.proofs.HeldLemmas.{is_held-none, is_held-without}
use Rattle.dep_graph.proofs.PairLemmas.{ins_of-cons, ins_of-without, outs_of-cons}
use Rattle.ref_collect.specs.Counts.{count_of}
use Rattle.ref_collect.specs.Needed.{AreKeptBut, AreKept, AreWaiting}

-- what is so of the seconds of the event's pairs is so of its successors
outs_all : (Q : ℕ → Type 0) (pairs : List (ℕ × ℕ)) (event : ℕ) → All (λ pair. pair.0 ≡ event → Q pair.1) pairs → All Q (outs_of pairs event)
outs_all Q pairs event all =
    All-map Q (λ (pair : ℕ × ℕ). pair.1) (filter (λ (pair : ℕ × ℕ). eqb pair.0 event) (reverse pairs)) (λ k d below. All-filter (λ (pair : ℕ × ℕ). eqb pair.0 event) (λ (pair : ℕ × ℕ). pair.0 ≡ event → Q pair.1) (reverse pairs) (All-reverse (λ (pair : ℕ × ℕ). pair.0 ≡ event → Q pair.1) pairs all) k d below (eqb-true (get_or (filter (λ (pair : ℕ × ℕ). eqb pair.0 event) (reverse pairs)) k d).0 event (filter_passes (λ (pair : ℕ × ℕ). eqb pair.0 event) (reverse pairs) k d below)))

-- the successors are apart, as the pairs are
outs_apart : (pairs : List (ℕ × ℕ)) (event : ℕ) → AllPairs (λ p q. p ≡ q → ⊥) pairs → AllPairs (λ a b. a ≡ b → ⊥) (outs_of pairs event)
outs_apart [] event distinct = λ i j d less below. absurd (omega arith)
outs_apart (pair ∷ more) event distinct =
    subst (AllPairs (λ (a b : ℕ). a ≡ b → ⊥)) (sym (outs_of-cons pair more event)) (one (eqb pair.0 event) refl (outs_apart more event (λ i j d less below. distinct (suc i) (suc j) d (omega arith) (omega arith))))
  where
    differs : eqb pair.0 event ≡ true → All (λ other. other ≡ pair.1 → ⊥) (outs_of more event)
    differs first = outs_all (λ other. other ≡ pair.1 → ⊥) more event (λ k d below same_first same_second. distinct 0 (suc k) d (omega arith) (omega arith) (sym (ap (λ a. (a, (get_or more k d).1)) (same_first ∙ sym (eqb-true pair.0 event first)) ∙ ap (λ b. (pair.0, b)) same_second)))

    one : (same : Bool) → eqb pair.0 event ≡ same → AllPairs (λ a b. a ≡ b → ⊥) (outs_of more event) → AllPairs (λ a b. a ≡ b → ⊥) (outs_of more event ++ cond same (pair.1 ∷ []) [])
    one true same rest = all_pairs_push (λ (a b : ℕ). a ≡ b → ⊥) (outs_of more event) pair.1 rest (differs same)
    one false same rest = subst (AllPairs (λ (a b : ℕ). a ≡ b → ⊥)) (sym (append-nil (outs_of more event))) rest

-- the second of a pair has a predecessor
ins_some : (pairs : List (ℕ × ℕ)) (event : ℕ) → All (λ other. 1 ≤ ins_of pairs other) (outs_of pairs event)
ins_some pairs event =
    outs_all (λ other. 1 ≤ ins_of pairs other) pairs event (λ k d below first.
    let other = (get_or pairs k d).1 in
    let weight : ℕ × ℕ → ℕ = λ pair. cond (eqb pair.1 other) 1 0 in
    let at : weight (get_or pairs k d) ≡ 1 = ap (λ t. cond t 1 0) (eq-eqb other other refl) in
    let le : weight (get_or pairs k d) ≤ sum_by weight pairs = get_or-le-sum_by weight pairs k d below in
    omega (arith, at, le))

-- two lists that are apart, each from the other too
AllPairs-append : (xs ys : List ℕ) → AllPairs (λ a b. a ≡ b → ⊥) xs → AllPairs (λ a b. a ≡ b → ⊥) ys → AllByRecursion (λ x. All (λ y. x ≡ y → ⊥) ys) xs → AllPairs (λ a b. a ≡ b → ⊥) (xs ++ ys)
AllPairs-append [] ys of_xs of_ys between = of_ys
AllPairs-append (x ∷ xs) ys of_xs of_ys between =
    AllPairs-cons (λ (a b : ℕ). a ≡ b → ⊥) x (xs ++ ys) (All-append (λ y. x ≡ y → ⊥) xs ys (λ k d below. of_xs 0 (suc k) d (omega arith) (omega arith)) between.0) (AllPairs-append xs ys (λ i j d less below. of_xs (suc i) (suc j) d (omega arith) (omega arith)) of_ys between.1)

-- what waits in front of one more
front : (P : ℕ → Type 0) (waiting : List ℕ) (event : ℕ) → All P (waiting ++ event ∷ []) → All P waiting
front P waiting event all k d below =
    subst P (get_or_append_left waiting (event ∷ []) d k below) (all k d (omega (arith, length-append waiting (event ∷ []))))

last : (P : ℕ → Type 0) (waiting : List ℕ) (event : ℕ) → All P (waiting ++ event ∷ []) → P event
last P waiting event all =
    subst P (get_or_push waiting event 0 (length waiting) refl) (all (length waiting) 0 (omega (arith, length-append waiting (event ∷ []))))

distinct_front : (waiting : List ℕ) (event : ℕ) → AllPairs (λ a b. a ≡ b → ⊥) (waiting ++ event ∷ []) → AllPairs (λ a b. a ≡ b → ⊥) waiting
distinct_front waiting event distinct i j d less below same =
    distinct i j d less (omega (arith, length-append waiting (event ∷ []))) (get_or_append_left waiting (event ∷ []) d i (omega arith) ∙ same ∙ sym (get_or_append_left waiting (event ∷ []) d j below))

-- the last one is none of the others
pub last_apart : (counts pairs : List (ℕ × ℕ)) (vertices waiting : List ℕ) (event : ℕ) → AreWaiting counts pairs vertices (waiting ++ event ∷ []) → is_held waiting event ≡ false
last_apart counts pairs vertices waiting event is =
    is_held-none waiting event (λ k d below same. is.distinct k (length waiting) d below (omega (arith, length-append waiting (event ∷ []))) (get_or_append_left waiting (event ∷ []) d k below ∙ same ∙ sym (get_or_push waiting event d (length waiting) refl)))

pub last_source : (counts pairs : List (ℕ × ℕ)) (vertices waiting : List ℕ) (event : ℕ) → AreWaiting counts pairs vertices (waiting ++ event ∷ []) → ins_of pairs event ≡ 0
last_source counts pairs vertices waiting event is = last (λ e. ins_of pairs e ≡ 0) waiting event is.sources

-- what waits with one more is that one, or waits
waits_or_last : (waiting : List ℕ) (last event : ℕ) → is_held (waiting ++ last ∷ []) event ≡ true → (is_held waiting event ≡ true) ⊎ (last ≡ event)
waits_or_last waiting last event held =
    elim (or_cases (is_held waiting event) (eqb last event || false) (sym (list_any-append (λ vertex. eqb vertex event) waiting (last ∷ [])) ∙ held)) [
      | inl waits ↦ inl waits
      | inr is ↦ inr (eqb-true last event (by_or (eqb last event) is))
    ]
  where
    by_or : (t : Bool) → (t || false) ≡ true → t ≡ true
    by_or true holds = refl
    by_or false holds = holds

-- a live event need not wait
pub AreWaiting-live : (counts pairs : List (ℕ × ℕ)) (vertices waiting : List ℕ) (event : ℕ) → AreWaiting counts pairs vertices (waiting ++ event ∷ []) → 0 < count_of counts event → AreWaiting counts pairs vertices waiting
AreWaiting-live counts pairs vertices waiting event is live =
    record {
      all = λ other held source. elim (is.all other held source) [
        | inl other_live ↦ inl other_live
        | inr waits ↦ elim (waits_or_last waiting event other waits) [
          | inl still ↦ inr still
          | inr same ↦ inl (subst (λ e. 0 < count_of counts e) same live)
        ]
      ];
      held = front (λ e. is_held vertices e ≡ true) waiting event is.held;
      sources = front (λ e. ins_of pairs e ≡ 0) waiting event is.sources;
      distinct = distinct_front waiting event is.distinct;
    }

-- an event has no more predecessors without another's pairs
ins_of-without-le : (pairs : List (ℕ × ℕ)) (gone event : ℕ) → ins_of (pairs_without pairs gone) event ≤ ins_of pairs event
ins_of-without-le [] gone event = omega arith
ins_of-without-le (pair ∷ more) gone event = one (eqb pair.0 gone) (ins_of-without-le more gone event)
  where
    one : (same : Bool) → ins_of (pairs_without more gone) event ≤ ins_of more event → ins_of (cond (not same) (pair ∷ pairs_without more gone) (pairs_without more gone)) event ≤ ins_of (pair ∷ more) event
    one true le = omega (arith, ins_of-cons pair more event, le)
    one false le = omega (arith, ins_of-cons pair more event, ins_of-cons pair (pairs_without more gone) event, le)

-- the event of a pair is a successor
outs_have : (pairs : List (ℕ × ℕ)) (event other : ℕ) → has_pair pairs event other ≡ true → is_held (outs_of pairs event) other ≡ true
outs_have [] event other there = there
outs_have (pair ∷ more) event other there =
    ap (λ l. is_held l other) (outs_of-cons pair more event) ∙ list_any-append (λ vertex. eqb vertex other) (outs_of more event) (cond (eqb pair.0 event) (pair.1 ∷ []) []) ∙ (elim (or_cases (eqb pair.0 event && eqb pair.1 other) (has_pair more event other) there) [
      | inl here ↦
          let both = and_parts (eqb pair.0 event) (eqb pair.1 other) here in
          or_right (is_held (outs_of more event) other) (is_held (cond (eqb pair.0 event) (pair.1 ∷ []) []) other) (ap (λ t. is_held (cond t (pair.1 ∷ []) []) other) both.0 ∙ or_left (eqb pair.1 other) false both.1)
      | inr behind ↦ or_left (is_held (outs_of more event) other) (is_held (cond (eqb pair.0 event) (pair.1 ∷ []) []) other) (outs_have more event other behind)
    ])

-- a held event that passes the test is one of those that pass
is_held-filter : (test : ℕ → Bool) (events : List ℕ) (event : ℕ) → test event ≡ true → is_held events event ≡ true → is_held (filter test events) event ≡ true
is_held-filter test [] event passes held = held
is_held-filter test (vertex ∷ more) event passes held =
    one (test vertex) refl (or_cases (eqb vertex event) (is_held more event) held) (is_held-filter test more event passes)
  where
    one : (pass : Bool) → test vertex ≡ pass → (eqb vertex event ≡ true) ⊎ (is_held more event ≡ true) → (is_held more event ≡ true → is_held (filter test more) event ≡ true) → is_held (cond pass (vertex ∷ filter test more) (filter test more)) event ≡ true
    one true pass (inl same) rest = or_left (eqb vertex event) (is_held (filter test more) event) same
    one true pass (inr behind) rest = or_right (eqb vertex event) (is_held (filter test more) event) (rest behind)
    one false pass (inl same) rest = absurd (both_ways (test vertex) pass (ap test (eqb-true vertex event same) ∙ passes))
    one false pass (inr behind) rest = rest behind

-- the event itself is not held without it
without-gone : (vertices : List ℕ) (gone : ℕ) → is_held (without vertices gone) gone ≡ false
without-gone vertices gone =
    list_any_none (λ vertex. eqb vertex gone) (without vertices gone) (λ k d below. not-true (eqb (get_or (without vertices gone) k d) gone) (filter_passes (λ vertex. not (eqb vertex gone)) vertices k d below))

-- a dead event that waited is taken out: those that it leaves bare wait
pub AreWaiting-gone : (counts pairs : List (ℕ × ℕ)) (vertices waiting : List ℕ) (gone : ℕ) → AreWaiting counts pairs vertices (waiting ++ gone ∷ []) → AllPairs (λ p q. p ≡ q → ⊥) pairs → All (λ event. is_held (without vertices gone) event ≡ true) (waiting ++ bared_by pairs gone) → AreWaiting counts (pairs_without pairs gone) (without vertices gone) (waiting ++ bared_by pairs gone)
AreWaiting-gone counts pairs vertices waiting gone is distinct held =
    record { all = all; held = held; sources = sources; distinct = apart }
  where
    test : ℕ → Bool
    test other = eqb (ins_of (pairs_without pairs gone) other) 0

    bared : List ℕ
    bared = bared_by pairs gone

    old_sources : All (λ event. ins_of pairs event ≡ 0) waiting
    old_sources = front (λ event. ins_of pairs event ≡ 0) waiting gone is.sources

    sources : All (λ event. ins_of (pairs_without pairs gone) event ≡ 0) (waiting ++ bared)
    sources =
        All-append (λ event. ins_of (pairs_without pairs gone) event ≡ 0) waiting bared (λ k d below. omega (arith, ins_of-without-le pairs gone (get_or waiting k d), old_sources k d below)) (λ k d below. eqb-true (ins_of (pairs_without pairs gone) (get_or bared k d)) 0 (filter_passes test (outs_of pairs gone) k d below))

    some : All (λ other. 1 ≤ ins_of pairs other) bared
    some = All-filter test (λ other. 1 ≤ ins_of pairs other) (outs_of pairs gone) (ins_some pairs gone)

    apart : AllPairs (λ a b. a ≡ b → ⊥) (waiting ++ bared)
    apart =
        AllPairs-append waiting bared (distinct_front waiting gone is.distinct) (AllPairs-filter (λ (a b : ℕ). a ≡ b → ⊥) test (outs_of pairs gone) (outs_apart pairs gone distinct)) (recursion_from_All (λ x. All (λ y. x ≡ y → ⊥) bared) waiting (λ k d below j e inside same. omega (arith, old_sources k d below, some j e inside, ap (ins_of pairs) same)))

    -- an event that had a predecessor has lost it
    lost : (event : ℕ) → ins_of (pairs_without pairs gone) event ≡ 0 → (ins_of pairs event ≡ 0 → ⊥) → is_held bared event ≡ true
    lost event source had =
        is_held-filter test (outs_of pairs gone) event (eq-eqb (ins_of (pairs_without pairs gone) event) 0 source) (outs_have pairs gone event (true_from_ne_false (has_pair pairs gone event) (λ none. had (sym (ins_of-without pairs gone event none) ∙ source))))

    all : (event : ℕ) → is_held (without vertices gone) event ≡ true → ins_of (pairs_without pairs gone) event ≡ 0 → (0 < count_of counts event) ⊎ (is_held (waiting ++ bared) event ≡ true)
    all event is_there source =
        let other : eqb gone event ≡ false = ne_eqb gone event (λ same. both_ways (is_held (without vertices gone) gone) (without-gone vertices gone) (subst (λ e. is_held (without vertices gone) e ≡ true) (sym same) is_there)) in
        let both = list_any-append (λ vertex. eqb vertex event) waiting bared in
        elim (cases_eq (ins_of pairs event) 0) [
          | inl was ↦ elim (is.all event (sym (is_held-without vertices gone event other) ∙ is_there) was) [
            | inl live ↦ inl live
            | inr waits ↦ elim (waits_or_last waiting gone event waits) [
              | inl still ↦ inr (both ∙ or_left (is_held waiting event) (is_held bared event) still)
              | inr same ↦ absurd (eqb-false gone event other same)
            ]
          ]
          | inr had ↦ inr (both ∙ or_right (is_held waiting event) (is_held bared event) (lost event source had))
        ]

pub AreWaiting-none : (counts pairs : List (ℕ × ℕ)) (vertices : List ℕ) (from : ℕ) → AreKeptBut counts pairs vertices from → (ins_of pairs from ≡ 0 → ⊥) → AreWaiting counts pairs vertices []
AreWaiting-none counts pairs vertices from kept some =
    record {
      all = λ event there none. inl (kept event there (ne_eqb event from (λ same. some (ap (ins_of pairs) (sym same) ∙ none))) none);
      held = All-nil (λ event. is_held vertices event ≡ true);
      sources = All-nil (λ event. ins_of pairs event ≡ 0);
      distinct = λ i j d less below. absurd (omega arith);
    }

-- no more events become bare than pairs go
pub bared_few : (pairs : List (ℕ × ℕ)) (waiting : List ℕ) (gone : ℕ) → length (waiting ++ bared_by pairs gone) + length (pairs_without pairs gone) ≤ length waiting + length pairs
bared_few pairs waiting gone =
    omega (arith, length-append waiting (bared_by pairs gone), length-filter (λ other. eqb (ins_of (pairs_without pairs gone) other) 0) (outs_of pairs gone), count_by-le-length (λ other. eqb (ins_of (pairs_without pairs gone) other) 0) (outs_of pairs gone), outs_and_others pairs gone)
  where
    outs_and_others : (pairs : List (ℕ × ℕ)) (gone : ℕ) → length (outs_of pairs gone) + length (pairs_without pairs gone) ≡ length pairs
    outs_and_others [] gone = refl
    outs_and_others (pair ∷ more) gone =
        let parts = ap length (outs_of-cons pair more gone) ∙ length-append (outs_of more gone) (cond (eqb pair.0 gone) (pair.1 ∷ []) []) in
        omega (arith, parts, one (eqb pair.0 gone) pair more gone, outs_and_others more gone)
      where
        one : (same : Bool) (pair : ℕ × ℕ) (more : List (ℕ × ℕ)) (gone : ℕ) → length (cond same (pair.1 ∷ []) []) + length (cond (not same) (pair ∷ pairs_without more gone) (pairs_without more gone)) ≡ 1 + length (pairs_without more gone)
        one true pair more gone = omega arith
        one false pair more gone = omega arith
