-- What one more pair, and one pair fewer, change of the successors and of the counts of predecessors.
use Rattle.std.proofs.Common.{◌≡◌, ◌⊎◌, ℕ, ◌+◌, ◌-◌, ◌<◌, ◌≤◌, Bool, true, false, not, cond, eqb, ◌&&◌, ◌||◌, suc, List, [], ◌∷◌, ◌++◌, length, get_or, take, drop, refl, sym, ap, ◌∙◌, subst, inl, inr, arith, length-append, zero-add}
use Rattle.std.specs.Prelude.{map, reverse, count_by}
use Rattle.std.specs.List.{All, AllPairs, AllByRecursion, filter, sum_by, remove, list_any}
use Rattle.std.proofs.lemmas.Bool.{and_from, and_parts, both_ways, cases_lt, eq-eqb, eqb-true, ne_eqb, false_from_ne_true, or_cases, or_left, or_right, or_parts}
use Rattle.std.proofs.lemmas.List.{reverse-append, append_assoc, append-nil, map-append, take_at, drop_at, get_or_at, get_or_default}
use Rattle.std.proofs.lemmas.List.Edits.{length-remove, get_or-remove_below, get_or-remove_above}
use Rattle.std.proofs.lemmas.List.Elements.{filter-append, recursion_from_All, All-append, All-take, All-drop}
use Rattle.std.proofs.lemmas.List.Folds.{list_any_at, list_any_none}
use Rattle.std.proofs.lemmas.List.Quantifiers.{all_pairs_remove}
use Rattle.std.proofs.lemmas.List.Sums.{sum_by-append, sum_by-cons}
use Rattle.kr_order.specs.Order.{reach, IsAcyclic}
use Rattle.kr_order.proofs.PathLemmas.{leads}
use Rattle.kr_order.proofs.OrderLemmas.{reach-path, reach-from_path}
use Rattle.dep_graph.specs.GraphView.{has_pair, outs_of, ins_of, pairs_without, JoinsHeld}
use Rattle.dep_graph.proofs.ChainLemmas.{All-reverse}

-- the count of predecessors over two lists of pairs
pub ins_of-append : (xs ys : List (ℕ × ℕ)) (event : ℕ) → ins_of (xs ++ ys) event ≡ ins_of xs event + ins_of ys event
ins_of-append xs ys event = sum_by-append (λ (pair : ℕ × ℕ). cond (eqb pair.1 event) 1 0) xs ys

-- the count of predecessors with one more pair
pub ins_of-push : (pairs : List (ℕ × ℕ)) (a b event : ℕ) → ins_of (pairs ++ (a, b) ∷ []) event ≡ ins_of pairs event + cond (eqb b event) 1 0
ins_of-push pairs a b event =
    let weight : ℕ × ℕ → ℕ = λ pair. cond (eqb pair.1 event) 1 0 in
    let both : sum_by weight (pairs ++ (a, b) ∷ []) ≡ sum_by weight pairs + sum_by weight ((a, b) ∷ []) = sum_by-append weight pairs ((a, b) ∷ []) in
    omega (arith, both)

-- no pair has the event as its second
pub ins_of-none : (pairs : List (ℕ × ℕ)) (event : ℕ) → All (λ pair. eqb pair.1 event ≡ false) pairs → ins_of pairs event ≡ 0
ins_of-none pairs event none = counted pairs (recursion_from_All (λ (pair : ℕ × ℕ). eqb pair.1 event ≡ false) pairs none)
  where
    counted : (pairs : List (ℕ × ℕ)) → AllByRecursion (λ (pair : ℕ × ℕ). eqb pair.1 event ≡ false) pairs → ins_of pairs event ≡ 0
    counted [] all = refl
    counted (pair ∷ more) all = grind (arith, all.0, counted more all.1)

-- a pair that is not there differs from each that is
pub differs : (pairs : List (ℕ × ℕ)) (a b : ℕ) → has_pair pairs a b ≡ false → (k : ℕ) (d : ℕ × ℕ) → k < length pairs → get_or pairs k d ≡ (a, b) → ⊥
differs pairs a b is_new k d below same =
    both_ways (has_pair pairs a b) is_new (list_any_at (λ (pair : ℕ × ℕ). eqb pair.0 a && eqb pair.1 b) pairs k d below (and_from (eqb (get_or pairs k d).0 a) (eqb (get_or pairs k d).1 b) (eq-eqb (get_or pairs k d).0 a (ap (λ (pair : ℕ × ℕ). pair.0) same)) (eq-eqb (get_or pairs k d).1 b (ap (λ (pair : ℕ × ℕ). pair.1) same))))

-- what is left of pairs without the one behind the first ones
pub remove-between : (front back : List (ℕ × ℕ)) (pair : ℕ × ℕ) → remove (front ++ pair ∷ back) (length front) ≡ front ++ back
remove-between front back pair =
    let parts : front ++ pair ∷ back ≡ (front ++ pair ∷ []) ++ back = sym (append_assoc front (pair ∷ []) back) in
    ap (λ l. l ++ drop (suc (length front)) (front ++ pair ∷ back)) (take_at front (pair ∷ back) (length front) refl) ∙ ap (λ l. front ++ drop (suc (length front)) l) parts ∙ ap (λ l. front ++ l) (drop_at (front ++ pair ∷ []) back (suc (length front)) (omega (arith, length-append front (pair ∷ []))))

-- what is so of all pairs is so without one
pub All-between : (P : ℕ × ℕ → Type 0) (front back : List (ℕ × ℕ)) (pair : ℕ × ℕ) → All P (front ++ pair ∷ back) → All P (front ++ back)
All-between P front back pair all =
    subst (All P) (remove-between front back pair) (All-append P (take (length front) (front ++ pair ∷ back)) (drop (suc (length front)) (front ++ pair ∷ back)) (All-take P (length front) (front ++ pair ∷ back) all) (All-drop P (suc (length front)) (front ++ pair ∷ back) all))

-- pairs that are apart stay so
pub distinct-between : (front back : List (ℕ × ℕ)) (pair : ℕ × ℕ) → AllPairs (λ p q. p ≡ q → ⊥) (front ++ pair ∷ back) → AllPairs (λ p q. p ≡ q → ⊥) (front ++ back)
distinct-between front back pair distinct =
    subst (AllPairs (λ (p q : ℕ × ℕ). p ≡ q → ⊥)) (remove-between front back pair) (all_pairs_remove (λ (p q : ℕ × ℕ). p ≡ q → ⊥) (front ++ pair ∷ back) (length front) (omega (arith, length-append front (pair ∷ back))) distinct)

-- and the pair is none of them
pub gone-between : (front back : List (ℕ × ℕ)) (a b : ℕ) → AllPairs (λ p q. p ≡ q → ⊥) (front ++ (a, b) ∷ back) → has_pair (front ++ back) a b ≡ false
gone-between front back a b distinct =
    subst (λ l. has_pair l a b ≡ false) (remove-between front back (a, b)) (list_any_none (λ (pair : ℕ × ℕ). eqb pair.0 a && eqb pair.1 b) (remove old n) (λ k d below. false_from_ne_true (eqb (get_or (remove old n) k d).0 a && eqb (get_or (remove old n) k d).1 b) (λ same. other k d below (and_parts (eqb (get_or (remove old n) k d).0 a) (eqb (get_or (remove old n) k d).1 b) same))))
  where
    old : List (ℕ × ℕ)
    old = front ++ (a, b) ∷ back

    n : ℕ
    n = length front

    inside : n < length old
    inside = omega (arith, length-append front ((a, b) ∷ back))

    other : (k : ℕ) (d : ℕ × ℕ) → k < length (remove old n) → (eqb (get_or (remove old n) k d).0 a ≡ true) × (eqb (get_or (remove old n) k d).1 b ≡ true) → ⊥
    other k d below same =
        let size = length-remove old n inside in
        let pair : get_or (remove old n) k d ≡ (a, b) = ap (λ x. (x, (get_or (remove old n) k d).1)) (eqb-true (get_or (remove old n) k d).0 a same.0) ∙ ap (λ y. (a, y)) (eqb-true (get_or (remove old n) k d).1 b same.1) in
        let here : get_or old n d ≡ (a, b) = get_or_at front (a, b) back d n refl in
        elim (cases_lt k n) [
          | inl before ↦ distinct k n d before inside (sym (get_or-remove_below old n d k before inside) ∙ pair ∙ sym here)
          | inr behind ↦ distinct n (k + 1) d (omega arith) (omega (arith, size, below)) (here ∙ sym pair ∙ get_or-remove_above old n d k behind inside)
        ]

-- the pairs of other events stay
pub others-between : (front back : List (ℕ × ℕ)) (a b : ℕ) → pairs_without (front ++ back) a ≡ pairs_without (front ++ (a, b) ∷ back) a
others-between front back a b =
    let test : ℕ × ℕ → Bool = λ pair. not (eqb pair.0 a) in
    filter-append test front back ∙ sym (filter-append test front ((a, b) ∷ back) ∙ ap (λ same. filter test front ++ cond (not same) ((a, b) ∷ filter test back) (filter test back)) (eq-eqb a a refl))

-- its second has one predecessor fewer
pub ins-between : (front back : List (ℕ × ℕ)) (a b event : ℕ) → ins_of (front ++ (a, b) ∷ back) event ≡ ins_of (front ++ back) event + cond (eqb b event) 1 0
ins-between front back a b event =
    let weight : ℕ × ℕ → ℕ = λ pair. cond (eqb pair.1 event) 1 0 in
    let old : sum_by weight (front ++ (a, b) ∷ back) ≡ sum_by weight front + sum_by weight ((a, b) ∷ back) = sum_by-append weight front ((a, b) ∷ back) in
    let one : sum_by weight ((a, b) ∷ back) ≡ cond (eqb b event) 1 0 + sum_by weight back = sum_by-cons weight (a, b) back in
    let new : sum_by weight (front ++ back) ≡ sum_by weight front + sum_by weight back = sum_by-append weight front back in
    omega (arith, old, one, new)

-- a path over a pair and others is one over the pair and more others
leads_with : (pair : ℕ × ℕ) (xs ys : List (ℕ × ℕ)) → ((a b : ℕ) → leads xs a b ≡ true → leads ys a b ≡ true) → (a b : ℕ) → leads (pair ∷ xs) a b ≡ true → leads (pair ∷ ys) a b ≡ true
leads_with pair xs ys more a b path =
    elim (or_cases (leads xs a b) ((eqb a pair.0 || leads xs a pair.0) && (eqb pair.1 b || leads xs pair.1 b)) path) [
      | inl old ↦ or_left (leads ys a b) ((eqb a pair.0 || leads ys a pair.0) && (eqb pair.1 b || leads ys pair.1 b)) (more a b old)
      | inr over ↦
          let both = and_parts (eqb a pair.0 || leads xs a pair.0) (eqb pair.1 b || leads xs pair.1 b) over in
          or_right (leads ys a b) ((eqb a pair.0 || leads ys a pair.0) && (eqb pair.1 b || leads ys pair.1 b)) (and_from (eqb a pair.0 || leads ys a pair.0) (eqb pair.1 b || leads ys pair.1 b) (or_more (eqb a pair.0) (leads xs a pair.0) (leads ys a pair.0) (more a pair.0) both.0) (or_more (eqb pair.1 b) (leads xs pair.1 b) (leads ys pair.1 b) (more pair.1 b) both.1))
    ]
  where
    or_more : (t x y : Bool) → (x ≡ true → y ≡ true) → (t || x) ≡ true → (t || y) ≡ true
    or_more true x y more holds = refl
    or_more false x y more holds = more holds

leads-between : (newer older : List (ℕ × ℕ)) (pair : ℕ × ℕ) (a b : ℕ) → leads (newer ++ older) a b ≡ true → leads (newer ++ pair ∷ older) a b ≡ true
leads-between [] older pair a b path = or_left (leads older a b) ((eqb a pair.0 || leads older a pair.0) && (eqb pair.1 b || leads older pair.1 b)) path
leads-between (next ∷ newer) older pair a b path = leads_with next (newer ++ older) (newer ++ pair ∷ older) (leads-between newer older pair) a b path

-- there is no path more
pub reach-between : (front back : List (ℕ × ℕ)) (pair : ℕ × ℕ) (a b : ℕ) → reach (front ++ back) a b ≡ true → reach (front ++ pair ∷ back) a b ≡ true
reach-between front back pair a b path =
    let fewer : leads (reverse back ++ reverse front) a b ≡ true = ap (λ l. leads l a b) (sym (reverse-append front back)) ∙ reach-path (front ++ back) a b path in
    reach-from_path (front ++ pair ∷ back) a b (ap (λ l. leads l a b) (reverse-append front (pair ∷ back) ∙ ap (λ l. l ++ reverse front) (reverse-append (pair ∷ []) back) ∙ append_assoc (reverse back) (pair ∷ []) (reverse front)) ∙ leads-between (reverse back) (reverse front) pair a b fewer)

pub acyclic-between : (front back : List (ℕ × ℕ)) (pair : ℕ × ℕ) → IsAcyclic (front ++ pair ∷ back) → IsAcyclic (front ++ back)
acyclic-between front back pair acyclic =
    record { no_cycle = λ event. false_from_ne_true (reach (front ++ back) event event) (λ cycle. both_ways (reach (front ++ pair ∷ back) event event) (acyclic.no_cycle event) (reach-between front back pair event event cycle)) }

-- the count with one older pair
pub ins_of-cons : (pair : ℕ × ℕ) (more : List (ℕ × ℕ)) (event : ℕ) → ins_of (pair ∷ more) event ≡ cond (eqb pair.1 event) 1 0 + ins_of more event
ins_of-cons pair more event = sum_by-cons (λ (p : ℕ × ℕ). cond (eqb p.1 event) 1 0) pair more

-- where the pair from a to b is not there, b has no predecessor fewer without the pairs of a
pub ins_of-without : (pairs : List (ℕ × ℕ)) (a b : ℕ) → has_pair pairs a b ≡ false → ins_of (pairs_without pairs a) b ≡ ins_of pairs b
ins_of-without [] a b none = refl
ins_of-without (pair ∷ more) a b none =
    one (eqb pair.0 a) (eqb pair.1 b) refl (or_parts (eqb pair.0 a && eqb pair.1 b) (has_pair more a b) none).0 (ins_of-without more a b (or_parts (eqb pair.0 a && eqb pair.1 b) (has_pair more a b) none).1)
  where
    one : (first second : Bool) → eqb pair.1 b ≡ second → (first && second) ≡ false → ins_of (pairs_without more a) b ≡ ins_of more b → ins_of (cond (not first) (pair ∷ pairs_without more a) (pairs_without more a)) b ≡ ins_of (pair ∷ more) b
    one true true is none rest = absurd (both_ways true none refl)
    one true false is none rest = rest ∙ sym (ins_of-cons pair more b ∙ ap (λ t. cond t 1 0 + ins_of more b) is ∙ zero-add (ins_of more b))
    one false second is none rest = ins_of-cons pair (pairs_without more a) b ∙ ap (λ n. cond (eqb pair.1 b) 1 0 + n) rest ∙ sym (ins_of-cons pair more b)

-- the successors, with one older pair
pub outs_of-cons : (pair : ℕ × ℕ) (more : List (ℕ × ℕ)) (event : ℕ) → outs_of (pair ∷ more) event ≡ outs_of more event ++ cond (eqb pair.0 event) (pair.1 ∷ []) []
outs_of-cons pair more event =
    let test : ℕ × ℕ → Bool = λ p. eqb p.0 event in
    let parts : filter test (reverse (pair ∷ more)) ≡ filter test (reverse more) ++ filter test (pair ∷ []) = ap (filter test) (reverse-append (pair ∷ []) more) ∙ filter-append test (reverse more) (pair ∷ []) in
    ap (map (λ (p : ℕ × ℕ). p.1)) parts ∙ map-append (λ (p : ℕ × ℕ). p.1) (filter test (reverse more)) (filter test (pair ∷ [])) ∙ one (eqb pair.0 event) (outs_of more event)
  where
    one : (same : Bool) (rest : List ℕ) → rest ++ map (λ (p : ℕ × ℕ). p.1) (cond same (pair ∷ []) []) ≡ rest ++ cond same (pair.1 ∷ []) []
    one true rest = refl
    one false rest = refl

-- what is left without the pairs of an event that has none
pub pairs_without-none : (pairs : List (ℕ × ℕ)) (event : ℕ) → outs_of pairs event ≡ [] → pairs_without pairs event ≡ pairs
pairs_without-none [] event none = refl
pairs_without-none (pair ∷ more) event none =
    one (eqb pair.0 event) (sym (outs_of-cons pair more event) ∙ none) (pairs_without-none more event)
  where
    one : (same : Bool) → outs_of more event ++ cond same (pair.1 ∷ []) [] ≡ [] → (outs_of more event ≡ [] → pairs_without more event ≡ more) → cond (not same) (pair ∷ pairs_without more event) (pairs_without more event) ≡ pair ∷ more
    one true is rest = absurd (omega (arith, ap length is, length-append (outs_of more event) (pair.1 ∷ [])))
    one false is rest = ap (λ l. pair ∷ l) (rest (sym (append-nil (outs_of more event)) ∙ is))
