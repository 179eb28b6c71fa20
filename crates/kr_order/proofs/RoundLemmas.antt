-- Rounds over the pairs find the events to which a path leads, and no others.
use Rattle.std.proofs.Common.{◌≡◌, ◌⊎◌, ℕ, zero, suc, ◌+◌, ◌≤◌, Bool, true, false, cond, not, ◌&&◌, ◌||◌, eqb, List, [], ◌∷◌, ◌++◌, length, refl, sym, ap, subst, inl, inr, arith}
use Rattle.std.specs.Prelude.{reverse}
use Rattle.std.specs.List.{AllByRecursion}
use Rattle.std.proofs.lemmas.Bool.{and_parts, both_ways, eq-eqb, eqb-true, eqb-false, or_cases, or_left, or_right}
use Rattle.std.proofs.lemmas.List.{reverse-append, reverse-reverse}
use Rattle.kr_order.specs.Order.{is_among, found_over, round, rounds, behind, reach}
use Rattle.kr_order.proofs.PathLemmas.{leads, leads_cases, leads_old, leads_own, leads-trans}

-- what is so of each item is so of each item backwards
AllByRecursion-append : {X : Type 0} (P : X → Type 0) (xs ys : List X) → AllByRecursion P xs → AllByRecursion P ys → AllByRecursion P (xs ++ ys)
AllByRecursion-append P [] ys front back = back
AllByRecursion-append P (x ∷ xs) ys front back = (front.0, AllByRecursion-append P xs ys front.1 back)

pub AllByRecursion-reverse : {X : Type 0} (P : X → Type 0) (xs : List X) → AllByRecursion P xs → AllByRecursion P (reverse xs)
AllByRecursion-reverse P [] all = tt
AllByRecursion-reverse P (x ∷ xs) all =
    subst (AllByRecursion P) (sym (reverse-append (x ∷ []) xs)) (AllByRecursion-append P (reverse xs) (x ∷ []) (AllByRecursion-reverse P xs all.1) (all.0, tt))

-- a path leads from a to each event that was found
abbrev IsLed : List (ℕ × ℕ) → ℕ → List ℕ → Type 0
IsLed newest a found = (event : ℕ) → is_among found event ≡ true → leads newest a event ≡ true

-- the pair is a path
abbrev IsPath : List (ℕ × ℕ) → ℕ × ℕ → Type 0
IsPath newest pair = leads newest pair.0 pair.1 ≡ true

IsPath-more : (pair : ℕ × ℕ) (older pairs : List (ℕ × ℕ)) → AllByRecursion (IsPath older) pairs → AllByRecursion (IsPath (pair ∷ older)) pairs
IsPath-more pair older [] all = tt
IsPath-more pair older (p ∷ pairs) all = (leads_old pair older p.0 p.1 all.0, IsPath-more pair older pairs all.1)

-- each pair is a path of the order
all_paths : (newest : List (ℕ × ℕ)) → AllByRecursion (IsPath newest) newest
all_paths [] = tt
all_paths (pair ∷ older) = (leads_own pair older, IsPath-more pair older older (all_paths older))

found_over-led : (newest : List (ℕ × ℕ)) (a : ℕ) (found : List ℕ) (pair : ℕ × ℕ) → IsPath newest pair → IsLed newest a found → IsLed newest a (found_over a found pair)
found_over-led newest a found pair path led =
    by_test ((eqb a pair.0 || is_among found pair.0) && not (is_among found pair.1)) refl
  where
    to : (a ≡ pair.0) ⊎ (is_among found pair.0 ≡ true) → leads newest a pair.1 ≡ true
    to (inl same) = subst (λ v. leads newest v pair.1 ≡ true) (sym same) path
    to (inr was) = leads-trans newest a pair.0 pair.1 (led pair.0 was) path

    from : (eqb a pair.0 || is_among found pair.0) ≡ true → (a ≡ pair.0) ⊎ (is_among found pair.0 ≡ true)
    from is = elim (or_cases (eqb a pair.0) (is_among found pair.0) is) [ inl same ↦ inl (eqb-true a pair.0 same) | inr was ↦ inr was ]

    by_test : (more : Bool) → ((eqb a pair.0 || is_among found pair.0) && not (is_among found pair.1)) ≡ more → IsLed newest a (cond more (pair.1 ∷ found) found)
    by_test true is = λ event among.
        elim (or_cases (eqb pair.1 event) (is_among found event) among) [
          | inl new ↦ subst (λ v. leads newest a v ≡ true) (eqb-true pair.1 event new) (to (from (and_parts (eqb a pair.0 || is_among found pair.0) (not (is_among found pair.1)) is).0))
          | inr old ↦ led event old
        ]
    by_test false is = led

round-led : (newest : List (ℕ × ℕ)) (a : ℕ) (pairs : List (ℕ × ℕ)) (found : List ℕ) → AllByRecursion (IsPath newest) pairs → IsLed newest a found → IsLed newest a (round pairs a found)
round-led newest a [] found all led = led
round-led newest a (pair ∷ pairs) found all led =
    round-led newest a pairs (found_over a found pair) all.1 (found_over-led newest a found pair all.0 led)

-- only events to which a path leads are found
rounds-led : (newest : List (ℕ × ℕ)) (pairs : List (ℕ × ℕ)) (a n : ℕ) (found : List ℕ) → AllByRecursion (IsPath newest) pairs → IsLed newest a found → IsLed newest a (rounds pairs a n found)
rounds-led newest pairs a zero found all led = led
rounds-led newest pairs a (suc n) found all led =
    elim (eqb (length (round pairs a found)) (length found)) as (λ same. IsLed newest a (elim same [ true ↦ found | false ↦ rounds pairs a n (round pairs a found) ])) [
      | true ↦ led
      | false ↦ rounds-led newest pairs a n (round pairs a found) all (round-led newest a pairs found all led)
    ]

-- where the pair's first event is a or was found, its second was found
abbrev IsFollowed : ℕ → List ℕ → ℕ × ℕ → Type 0
IsFollowed a found pair = (eqb a pair.0 || is_among found pair.0) ≡ true → is_among found pair.1 ≡ true

-- where all pairs are followed, each path from what was found leads to what was found
found_along : (newest : List (ℕ × ℕ)) (a : ℕ) (found : List ℕ) → AllByRecursion (IsFollowed a found) newest → (x y : ℕ) → (eqb a x || is_among found x) ≡ true → leads newest x y ≡ true → is_among found y ≡ true
found_along [] a found all x y there path = cc
found_along (pair ∷ older) a found all x y there path =
    elim (leads_cases pair older x y path) [
      | inl old ↦ found_along older a found all.1 x y there old
      | inr over ↦
          let to = all.0 (first over.to (found_along older a found all.1 x pair.0 there)) in
          last to over.on (found_along older a found all.1 pair.1 y (or_right (eqb a pair.1) (is_among found pair.1) to))
    ]
  where
    first : (x ≡ pair.0) ⊎ (leads older x pair.0 ≡ true) → (leads older x pair.0 ≡ true → is_among found pair.0 ≡ true) → (eqb a pair.0 || is_among found pair.0) ≡ true
    first (inl same) on = subst (λ v. (eqb a v || is_among found v) ≡ true) same there
    first (inr more) on = or_right (eqb a pair.0) (is_among found pair.0) (on more)

    last : is_among found pair.1 ≡ true → (pair.1 ≡ y) ⊎ (leads older pair.1 y ≡ true) → (leads older pair.1 y ≡ true → is_among found y ≡ true) → is_among found y ≡ true
    last to (inl same) on = subst (λ v. is_among found v ≡ true) same to
    last to (inr more) on = on more

-- a round finds no less
round-grows : (a : ℕ) (pairs : List (ℕ × ℕ)) (found : List ℕ) → length found ≤ length (round pairs a found)
round-grows a [] found = omega arith
round-grows a (pair ∷ pairs) found =
    by_test ((eqb a pair.0 || is_among found pair.0) && not (is_among found pair.1)) (round-grows a pairs)
  where
    by_test : (more : Bool) → ((next : List ℕ) → length next ≤ length (round pairs a next)) → length found ≤ length (round pairs a (cond more (pair.1 ∷ found) found))
    by_test true on = omega (arith, on (pair.1 ∷ found))
    by_test false on = on found

-- in a round that finds nothing more all pairs are followed
round-stable : (a : ℕ) (pairs : List (ℕ × ℕ)) (found : List ℕ) → length (round pairs a found) ≡ length found → AllByRecursion (IsFollowed a found) pairs
round-stable a [] found same = tt
round-stable a (pair ∷ pairs) found same =
    by_test (eqb a pair.0 || is_among found pair.0) (is_among found pair.1) refl refl same (round-stable a pairs found)
  where
    by_test : (to on : Bool) → (eqb a pair.0 || is_among found pair.0) ≡ to → is_among found pair.1 ≡ on → length (round pairs a (cond (to && not on) (pair.1 ∷ found) found)) ≡ length found → (length (round pairs a found) ≡ length found → AllByRecursion (IsFollowed a found) pairs) → IsFollowed a found pair × AllByRecursion (IsFollowed a found) pairs
    by_test true true _ there same rest = (λ _. there, rest same)
    by_test true false _ _ same rest = absurd (omega (arith, same, round-grows a pairs (pair.1 ∷ found)))
    by_test false on never _ same rest = (λ is. absurd (both_ways (eqb a pair.0 || is_among found pair.0) never is), rest same)

-- how many pairs have a second event that was not found
abbrev missing : List (ℕ × ℕ) → List ℕ → ℕ
missing [] found = 0
missing (pair ∷ pairs) found = cond (is_among found pair.1) 0 1 + missing pairs found

missing-none : (pairs : List (ℕ × ℕ)) → missing pairs [] ≡ length pairs
missing-none [] = refl
missing-none (pair ∷ pairs) = omega (arith, missing-none pairs)

missing-less : (pairs : List (ℕ × ℕ)) (event : ℕ) (found : List ℕ) → missing pairs (event ∷ found) ≤ missing pairs found
missing-less [] event found = omega arith
missing-less (pair ∷ pairs) event found =
    by_test (eqb event pair.1) (is_among found pair.1) (missing-less pairs event found)
  where
    by_test : (new old : Bool) → missing pairs (event ∷ found) ≤ missing pairs found → cond (new || old) 0 1 + missing pairs (event ∷ found) ≤ cond old 0 1 + missing pairs found
    by_test true true less = omega (arith, less)
    by_test true false less = omega (arith, less)
    by_test false true less = omega (arith, less)
    by_test false false less = omega (arith, less)

-- fewer are missing once the pair's second event is found
abbrev Fills : List (ℕ × ℕ) → ℕ × ℕ → Type 0
Fills pairs pair = (found : List ℕ) → is_among found pair.1 ≡ false → missing pairs (pair.1 ∷ found) + 1 ≤ missing pairs found

Fills-more : (first : ℕ × ℕ) (pairs : List (ℕ × ℕ)) (some : List (ℕ × ℕ)) → AllByRecursion (Fills pairs) some → AllByRecursion (Fills (first ∷ pairs)) some
Fills-more first pairs [] all = tt
Fills-more first pairs (pair ∷ some) all =
    (λ found new. by_test (eqb pair.1 first.1) (is_among found first.1) found (all.0 found new), Fills-more first pairs some all.1)
  where
    by_test : (new old : Bool) (found : List ℕ) → missing pairs (pair.1 ∷ found) + 1 ≤ missing pairs found → cond (new || old) 0 1 + missing pairs (pair.1 ∷ found) + 1 ≤ cond old 0 1 + missing pairs found
    by_test true true found less = omega (arith, less)
    by_test true false found less = omega (arith, less)
    by_test false true found less = omega (arith, less)
    by_test false false found less = omega (arith, less)

-- each pair of the order does that
all_fill : (pairs : List (ℕ × ℕ)) → AllByRecursion (Fills pairs) pairs
all_fill [] = tt
all_fill (pair ∷ pairs) = (own, Fills-more pair pairs pairs (all_fill pairs))
  where
    own : Fills (pair ∷ pairs) pair
    own found new =
        let here : (eqb pair.1 pair.1 || is_among found pair.1) ≡ true = or_left (eqb pair.1 pair.1) (is_among found pair.1) (eq-eqb pair.1 pair.1 refl) in
        omega (arith, ap {B = ℕ} (λ b. cond b 0 1) here, ap {B = ℕ} (λ b. cond b 0 1) new, missing-less pairs pair.1 found)

-- what a round finds is missing no longer
round-fills : (order : List (ℕ × ℕ)) (a : ℕ) (pairs : List (ℕ × ℕ)) (found : List ℕ) → AllByRecursion (Fills order) pairs → missing order (round pairs a found) + length (round pairs a found) ≤ missing order found + length found
round-fills order a [] found all = omega arith
round-fills order a (pair ∷ pairs) found all =
    by_test (eqb a pair.0 || is_among found pair.0) (is_among found pair.1) refl (λ next. round-fills order a pairs next all.1)
  where
    by_test : (to on : Bool) → is_among found pair.1 ≡ on → ((next : List ℕ) → missing order (round pairs a next) + length (round pairs a next) ≤ missing order next + length next) → missing order (round pairs a (cond (to && not on) (pair.1 ∷ found) found)) + length (round pairs a (cond (to && not on) (pair.1 ∷ found) found)) ≤ missing order found + length found
    by_test true false new rest = omega (arith, rest (pair.1 ∷ found), all.0 found new)
    by_test true true _ rest = rest found
    by_test false on _ rest = rest found

-- where nothing is missing all pairs are followed
missing-followed : (a : ℕ) (pairs : List (ℕ × ℕ)) (found : List ℕ) → missing pairs found ≤ 0 → AllByRecursion (IsFollowed a found) pairs
missing-followed a [] found none = tt
missing-followed a (pair ∷ pairs) found none =
    by_test (is_among found pair.1) refl none (missing-followed a pairs found)
  where
    by_test : (on : Bool) → is_among found pair.1 ≡ on → cond on 0 1 + missing pairs found ≤ 0 → (missing pairs found ≤ 0 → AllByRecursion (IsFollowed a found) pairs) → IsFollowed a found pair × AllByRecursion (IsFollowed a found) pairs
    by_test true there none rest = (λ _. there, rest (omega (arith, none)))
    by_test false _ none rest = absurd (omega (arith, none))

-- with no fewer rounds than events are missing all pairs are followed
rounds-followed : (pairs : List (ℕ × ℕ)) (a n : ℕ) (found : List ℕ) → missing pairs found ≤ n → AllByRecursion (IsFollowed a (rounds pairs a n found)) pairs
rounds-followed pairs a zero found few = missing-followed a pairs found few
rounds-followed pairs a (suc n) found few =
    by_test (eqb (length (round pairs a found)) (length found)) refl (rounds-followed pairs a n (round pairs a found))
  where
    by_test : (same : Bool) → eqb (length (round pairs a found)) (length found) ≡ same → (missing pairs (round pairs a found) ≤ n → AllByRecursion (IsFollowed a (rounds pairs a n (round pairs a found))) pairs) → AllByRecursion (IsFollowed a (elim same [ true ↦ found | false ↦ rounds pairs a n (round pairs a found) ])) pairs
    by_test true is rest = round-stable a pairs found (eqb-true (length (round pairs a found)) (length found) is)
    by_test false is rest =
        let other = eqb-false (length (round pairs a found)) (length found) is in
        rest (omega (arith, few, other, round-grows a pairs found, round-fills pairs a pairs found (all_fill pairs)))

-- a is before b where a path leads from a to b
pub reach-leads : (pairs : List (ℕ × ℕ)) (a b : ℕ) → reach pairs a b ≡ leads (reverse pairs) a b
reach-leads pairs a b = same_tests (reach pairs a b) (leads (reverse pairs) a b) led found
  where
    same_tests : (x y : Bool) → (x ≡ true → y ≡ true) → (y ≡ true → x ≡ true) → x ≡ y
    same_tests true y on back = sym (on refl)
    same_tests false true on back = back refl
    same_tests false false on back = refl

    all : AllByRecursion (IsPath (reverse pairs)) pairs
    all = subst (AllByRecursion (IsPath (reverse pairs))) (reverse-reverse pairs) (AllByRecursion-reverse (IsPath (reverse pairs)) (reverse pairs) (all_paths (reverse pairs)))

    led : reach pairs a b ≡ true → leads (reverse pairs) a b ≡ true
    led is = rounds-led (reverse pairs) pairs a (length pairs) [] all (λ event among. cc) b is

    found : leads (reverse pairs) a b ≡ true → reach pairs a b ≡ true
    found path =
        let followed = rounds-followed pairs a (length pairs) [] (omega (arith, missing-none pairs)) in
        found_along (reverse pairs) a (behind pairs a) (AllByRecursion-reverse (IsFollowed a (behind pairs a)) pairs followed) a b (or_left (eqb a a) (is_among (behind pairs a) a) (eq-eqb a a refl)) path
