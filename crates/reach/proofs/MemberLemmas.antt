-- Lists of numbers without repetition.
use Rattle.std.proofs.Common.{◌≡◌, ◌⊎◌, ℕ, ◌-◌, ◌<◌, ◌≤◌, Bool, true, false, cond, eqb, ◌||◌, List, [], ◌∷◌, ◌++◌, length, map, get_or, refl, sym, ap, ◌∙◌, subst, inl, inr, arith}
use Rattle.std.specs.Prelude.{reverse}
use Rattle.std.specs.List.{All, AllByRecursion, IsDistinct, sum_by}
use Rattle.std.proofs.lemmas.Bool.{both_ways, cases_Bool, cases_eq, cond-false, cond-true, eq-eqb, eqb-true, false_from_ne_true, ne_eqb, or_cases, or_left, or_parts, or_right}
use Rattle.std.proofs.lemmas.List.{get_or-reverse, length-reverse}
use Rattle.std.proofs.lemmas.List.Elements.{All-cons, All-nil, recursion_from_All}
use Rattle.std.proofs.lemmas.List.Folds.{list_any-append}
use Rattle.std.proofs.lemmas.List.Sums.{sum_by-cons}
use Rattle.kr_order.specs.Prefix.{IsPrefix}
use Rattle.kr_order.proofs.PrefixLemmas.{IsPrefix-refl, IsPrefix-append, IsPrefix-trans}
use Rattle.reach.specs.Finds.{is_in, with, with_all}

-- two numbers are equal either way round
pub eqb-sym : (x y : ℕ) → eqb x y ≡ eqb y x
eqb-sym x y =
    elim (cases_eq x y) [
      | inl same ↦ eq-eqb x y same ∙ sym (eq-eqb y x (sym same))
      | inr other ↦ ne_eqb x y other ∙ sym (ne_eqb y x (λ same. other (sym same)))
    ]

-- two tests that are true together give one answer
pub both_true : (a b : Bool) → (a ≡ true → b ≡ true) → (b ≡ true → a ≡ true) → a ≡ b
both_true true b there back = sym (there refl)
both_true false b there back = sym (false_from_ne_true b (λ is. both_ways false refl (back is)))

-- a number of a list that is longer
pub is_in-append : (xs ys : List ℕ) (x : ℕ) → is_in (xs ++ ys) x ≡ (is_in xs x || is_in ys x)
is_in-append xs ys x = list_any-append (eqb x) xs ys

-- what was there stays there
pub is_in-more : (xs ys : List ℕ) (x : ℕ) → IsPrefix xs ys → is_in xs x ≡ true → is_in ys x ≡ true
is_in-more xs ys x front there =
    ap (λ zs. is_in zs x) front.is ∙ is_in-append xs front.more x ∙ or_left (is_in xs x) (is_in front.more x) there

-- a number of a list that is one longer
pub is_in-push_cases : (xs : List ℕ) (y x : ℕ) → is_in (xs ++ y ∷ []) x ≡ true → (is_in xs x ≡ true) ⊎ (x ≡ y)
is_in-push_cases xs y x there =
    elim (or_cases (is_in xs x) (eqb x y || false) (sym (is_in-append xs (y ∷ []) x) ∙ there)) [
      | inl old ↦ inl old
      | inr new ↦ elim (or_cases (eqb x y) false new) [ inl same ↦ inr (eqb-true x y same) | inr never ↦ cc ]
    ]

-- the new number is there
pub is_in-push_same : (xs : List ℕ) (y : ℕ) → is_in (xs ++ y ∷ []) y ≡ true
is_in-push_same xs y = is_in-append xs (y ∷ []) y ∙ or_right (is_in xs y) (eqb y y || false) (or_left (eqb y y) false (eq-eqb y y refl))

-- another number is there only if it was
pub is_in-push_other : (xs : List ℕ) (y x : ℕ) → (x ≡ y → ⊥) → is_in (xs ++ y ∷ []) x ≡ is_in xs x
is_in-push_other xs y x other =
    is_in-append xs (y ∷ []) x ∙ ap (λ b. is_in xs x || (b || false)) (ne_eqb x y other) ∙ or_false (is_in xs x)
  where
    or_false : (b : Bool) → (b || (false || false)) ≡ b
    or_false true = refl
    or_false false = refl

-- what is so of all numbers of a list is so of each
pub is_in-all : (xs : List ℕ) (x : ℕ) (P : ℕ → Type 0) → All P xs → is_in xs x ≡ true → P x
is_in-all xs x P all there = by_recursion xs (recursion_from_All P xs all) there
  where
    by_recursion : (ys : List ℕ) → AllByRecursion P ys → is_in ys x ≡ true → P x
    by_recursion [] _ never = cc
    by_recursion (y ∷ ys) each is =
        elim (or_cases (eqb x y) (is_in ys x) is) [
          | inl same ↦ subst P (sym (eqb-true x y same)) each.0
          | inr more ↦ by_recursion ys each.1 more
        ]

-- and the other way
pub All-from_is_in : (xs : List ℕ) (P : ℕ → Type 0) → ((x : ℕ) → is_in xs x ≡ true → P x) → All P xs
All-from_is_in [] P each = All-nil P
All-from_is_in (x ∷ xs) P each =
    All-cons P x xs (each x (or_left (eqb x x) (is_in xs x) (eq-eqb x x refl))) (All-from_is_in xs P (λ y there. each y (or_right (eqb y x) (is_in xs y) there)))

-- a number at an index is there
pub is_in-at : (xs : List ℕ) (i d : ℕ) → i < length xs → is_in xs (get_or xs i d) ≡ true
is_in-at xs i d below =
    let all : All (λ x. is_in xs x ≡ true) xs = All-from_is_in xs (λ x. is_in xs x ≡ true) (λ x there. there) in
    all i d below

-- what f gives at a number of the list
pub is_in-map : (f : ℕ → ℕ) (xs : List ℕ) (x : ℕ) → is_in xs x ≡ true → is_in (map f xs) (f x) ≡ true
is_in-map f [] x never = cc
is_in-map f (y ∷ ys) x there =
    elim (or_cases (eqb x y) (is_in ys x) there) [
      | inl same ↦ or_left (eqb (f x) (f y)) (is_in (map f ys) (f x)) (eq-eqb (f x) (f y) (ap f (eqb-true x y same)))
      | inr more ↦ or_right (eqb (f x) (f y)) (is_in (map f ys) (f x)) (is_in-map f ys x more)
    ]

-- a number of the list at which f gives the value
pub record IsGivenBy (f : ℕ → ℕ) (xs : List ℕ) (y : ℕ) : Type 0 where
  pub x : ℕ
  pub there : is_in xs x ≡ true
  pub gives : f x ≡ y

pub is_in-map_from : (f : ℕ → ℕ) (xs : List ℕ) (y : ℕ) → is_in (map f xs) y ≡ true → IsGivenBy f xs y
is_in-map_from f [] y never = cc
is_in-map_from f (x ∷ xs) y there =
    elim (or_cases (eqb y (f x)) (is_in (map f xs) y) there) [
      | inl same ↦ record { x = x; there = or_left (eqb x x) (is_in xs x) (eq-eqb x x refl); gives = sym (eqb-true y (f x) same) }
      | inr more ↦
          let rest = is_in-map_from f xs y more in
          record { x = rest.x; there = or_right (eqb rest.x x) (is_in xs rest.x) rest.there; gives = rest.gives }
    ]

-- a number that was not there keeps a list distinct
pub IsDistinct-push : (xs : List ℕ) (y : ℕ) → IsDistinct eqb xs → is_in xs y ≡ false → IsDistinct eqb (xs ++ y ∷ [])
unfolding IsDistinct
IsDistinct-push [] y distinct out = (tt, tt)
IsDistinct-push (x ∷ xs) y distinct out =
    let parts = or_parts (eqb y x) (is_in xs y) out in
    (apart xs distinct.0 (eqb-sym x y ∙ parts.0), IsDistinct-push xs y distinct.1 parts.1)
  where
    apart : (zs : List ℕ) → AllByRecursion (λ z. eqb x z ≡ false) zs → eqb x y ≡ false → AllByRecursion (λ z. eqb x z ≡ false) (zs ++ y ∷ [])
    apart [] all last = (last, tt)
    apart (z ∷ zs) all last = (all.0, apart zs all.1 last)

-- f gives one value at one number of the list only
pub record IsInjective (f : ℕ → ℕ) (xs : List ℕ) : Type 0 where
  pub one : (x y : ℕ) → is_in xs x ≡ true → is_in xs y ≡ true → f x ≡ f y → x ≡ y

-- then it keeps the list distinct
pub IsDistinct-map : (f : ℕ → ℕ) (xs : List ℕ) → IsInjective f xs → IsDistinct eqb xs → IsDistinct eqb (map f xs)
unfolding IsDistinct
IsDistinct-map f [] inj distinct = tt
IsDistinct-map f (x ∷ xs) inj distinct =
    (recursion_from_All (λ y. eqb (f x) y ≡ false) (map f xs) (All-from_is_in (map f xs) (λ y. eqb (f x) y ≡ false) apart), IsDistinct-map f xs tail distinct.1)
  where
    tail : IsInjective f xs
    tail = record { one = λ y z in_y in_z same. inj.one y z (or_right (eqb y x) (is_in xs y) in_y) (or_right (eqb z x) (is_in xs z) in_z) same }

    in_head : is_in (x ∷ xs) x ≡ true
    in_head = or_left (eqb x x) (is_in xs x) (eq-eqb x x refl)

    out : (all : AllByRecursion (λ y. eqb x y ≡ false) xs) (ys : List ℕ) → AllByRecursion (λ y. eqb x y ≡ false) ys → is_in ys x ≡ true → ⊥
    out all [] each never = cc
    out all (y ∷ ys) each there =
        elim (or_cases (eqb x y) (is_in ys x) there) [ inl same ↦ both_ways (eqb x y) each.0 same | inr more ↦ out all ys each.1 more ]

    apart : (y : ℕ) → is_in (map f xs) y ≡ true → eqb (f x) y ≡ false
    apart y there =
        let given = is_in-map_from f xs y there in
        ne_eqb (f x) y (λ same. out distinct.0 xs distinct.0 (subst (λ z. is_in xs z ≡ true) (sym (inj.one x given.x in_head (or_right (eqb given.x x) (is_in xs given.x) given.there) (same ∙ sym given.gives))) given.there))

-- a number stands in a distinct list at most once
pub times-distinct : (xs : List ℕ) (x : ℕ) → IsDistinct eqb xs → sum_by (λ y. cond (eqb x y) 1 0) xs ≤ 1
unfolding IsDistinct
times-distinct [] x distinct = omega arith
times-distinct (y ∷ ys) x distinct =
    elim (cases_Bool (eqb x y)) [
      | inl same ↦
          let none : sum_by weight ys ≡ 0 = sum_by-none ys (subst (λ z. AllByRecursion (λ w. eqb z w ≡ false) ys) (sym (eqb-true x y same)) distinct.0) in
          let here : weight y ≡ 1 = cond-true (eqb x y) 1 0 same in
          omega (arith, sum_by-cons weight y ys, none, here)
      | inr other ↦
          let here : weight y ≡ 0 = cond-false (eqb x y) 1 0 other in
          omega (arith, sum_by-cons weight y ys, times-distinct ys x distinct.1, here)
    ]
  where
    weight : ℕ → ℕ
    weight z = cond (eqb x z) 1 0

    sum_by-none : (zs : List ℕ) → AllByRecursion (λ w. eqb x w ≡ false) zs → sum_by weight zs ≡ 0
    sum_by-none [] all = refl
    sum_by-none (z ∷ zs) all =
        let here : weight z ≡ 0 = cond-false (eqb x z) 1 0 all.0 in
        omega (arith, sum_by-cons weight z zs, sum_by-none zs all.1, here)

-- a list with a number begins with the list
pub IsPrefix-with : (xs : List ℕ) (y : ℕ) → IsPrefix xs (with xs y)
IsPrefix-with xs y =
    elim (is_in xs y) as (λ there. IsPrefix xs (cond there xs (xs ++ y ∷ []))) [ true ↦ IsPrefix-refl xs | false ↦ IsPrefix-append xs (y ∷ []) ]

-- and is distinct where the list is
pub IsDistinct-with : (xs : List ℕ) (y : ℕ) → IsDistinct eqb xs → IsDistinct eqb (with xs y)
IsDistinct-with xs y distinct = by_test (is_in xs y) refl
  where
    by_test : (there : Bool) → is_in xs y ≡ there → IsDistinct eqb (cond there xs (xs ++ y ∷ []))
    by_test true is = distinct
    by_test false is = IsDistinct-push xs y distinct is

-- one with several begins with the list too
pub IsPrefix-with_all : (xs ys : List ℕ) → IsPrefix xs (with_all xs ys)
IsPrefix-with_all xs [] = IsPrefix-refl xs
IsPrefix-with_all xs (y ∷ ys) = IsPrefix-trans xs (with xs y) (with_all (with xs y) ys) (IsPrefix-with xs y) (IsPrefix-with_all (with xs y) ys)

-- the number is there
pub is_in-with_same : (xs : List ℕ) (y : ℕ) → is_in (with xs y) y ≡ true
is_in-with_same xs y = by_test (is_in xs y) refl
  where
    by_test : (there : Bool) → is_in xs y ≡ there → is_in (cond there xs (xs ++ y ∷ [])) y ≡ true
    by_test true is = is
    by_test false is = is_in-push_same xs y

-- and no other new one
pub is_in-with_cases : (xs : List ℕ) (y x : ℕ) → is_in (with xs y) x ≡ true → (is_in xs x ≡ true) ⊎ (x ≡ y)
is_in-with_cases xs y x there = by_test (is_in xs y) there
  where
    by_test : (test : Bool) → is_in (cond test xs (xs ++ y ∷ [])) x ≡ true → (is_in xs x ≡ true) ⊎ (x ≡ y)
    by_test true is = inl is
    by_test false is = is_in-push_cases xs y x is

-- each of the numbers is there
pub is_in-with_all_new : (xs ys : List ℕ) (x : ℕ) → is_in ys x ≡ true → is_in (with_all xs ys) x ≡ true
is_in-with_all_new xs [] x never = cc
is_in-with_all_new xs (y ∷ ys) x there =
    elim (or_cases (eqb x y) (is_in ys x) there) [
      | inl same ↦ is_in-more (with xs y) (with_all (with xs y) ys) x (IsPrefix-with_all (with xs y) ys) (subst (λ z. is_in (with xs y) z ≡ true) (sym (eqb-true x y same)) (is_in-with_same xs y))
      | inr more ↦ is_in-with_all_new (with xs y) ys x more
    ]

-- and no other new one
pub is_in-with_all_cases : (xs ys : List ℕ) (x : ℕ) → is_in (with_all xs ys) x ≡ true → (is_in xs x ≡ true) ⊎ (is_in ys x ≡ true)
is_in-with_all_cases xs [] x there = inl there
is_in-with_all_cases xs (y ∷ ys) x there =
    elim (is_in-with_all_cases (with xs y) ys x there) [
      | inl old ↦ elim (is_in-with_cases xs y x old) [
        | inl older ↦ inl older
        | inr same ↦ inr (or_left (eqb x y) (is_in ys x) (eq-eqb x y same))
      ]
      | inr new ↦ inr (or_right (eqb x y) (is_in ys x) new)
    ]

-- what is so of all items is so of all of them in the other order
pub All-reverse : {X : Type 0} (P : X → Type 0) (xs : List X) → All P xs → All P (reverse xs)
All-reverse P xs all k d below =
    let size = length-reverse xs in
    let in_xs : k < length xs = omega arith in
    subst P (sym (get_or-reverse xs k d in_xs)) (all (length xs - 1 - k) d (omega arith))
