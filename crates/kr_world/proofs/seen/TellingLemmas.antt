-- Lists of tellings: the greatest of what they name, and their order.
use Rattle.std.proofs.Common.{zero, suc, ◌≡◌, ◌≢◌, ℕ, ◌≤◌, Bool, true, false, cond, List, [], ◌∷◌, ◌++◌, length, map, set, get_or, refl, sym, ap, ◌∙◌, arith, inl, inr}
use Rattle.std.specs.Prelude.{max, All, AllPairs, filter, slice_get}
use Rattle.std.proofs.lemmas.Bool.{cases_lt}
use Rattle.std.proofs.lemmas.List.{length-set}
use Rattle.std.proofs.lemmas.List.Elements.{All-nil, All-cons, All-head, All-tail, All-append, All-weaker}
use Rattle.std.proofs.lemmas.List.Kept.{AllPairs-cons}
use Rattle.std.proofs.lemmas.Option.{slice_get_past, slice_get-get_or}
use Rattle.kr_world.specs.Seen.{greatest}
use Rattle.kr_world.proofs.steps.ListFacts.{set_other}

pub greatest-append : (xs ys : List ℕ) → greatest (xs ++ ys) ≡ max (greatest xs) (greatest ys)
greatest-append [] ys = omega arith
greatest-append (x ∷ xs) ys = omega (arith, greatest-append xs ys)

-- each is no more than the greatest
pub named_most : {X : Type 0} (f : X → ℕ) (xs : List X) → All (λ x. f x ≤ greatest (map f xs)) xs
named_most f [] = All-nil (λ x. f x ≤ 0)
named_most f (x ∷ xs) =
    let most = max (f x) (greatest (map f xs)) in
    All-cons (λ y. f y ≤ most) x xs (omega arith) (All-weaker (λ y. f y ≤ greatest (map f xs)) (λ y. f y ≤ most) (λ y le. omega (arith, le)) xs (named_most f xs))

-- the greatest of what is no more than this is no more than this
pub greatest_within : (n : ℕ) (xs : List ℕ) → All (λ x. x ≤ n) xs → greatest xs ≤ n
greatest_within n [] all = omega arith
greatest_within n (x ∷ xs) all =
    let first = All-head (λ y. y ≤ n) x xs all in
    omega (arith, first, greatest_within n xs (All-tail (λ y. y ≤ n) x xs all))

-- a filter that keeps all, and one that keeps none
pub filter_all : {X : Type 0} (p : X → Bool) (xs : List X) → All (λ x. p x ≡ true) xs → filter p xs ≡ xs
filter_all p [] all = refl
filter_all p (x ∷ xs) all =
    ap (λ test. cond test (x ∷ filter p xs) (filter p xs)) (All-head (λ y. p y ≡ true) x xs all) ∙ ap (λ ys. x ∷ ys) (filter_all p xs (All-tail (λ y. p y ≡ true) x xs all))

pub filter_none : {X : Type 0} (p : X → Bool) (xs : List X) → All (λ x. p x ≡ false) xs → filter p xs ≡ []
filter_none p [] all = refl
filter_none p (x ∷ xs) all =
    ap (λ test. cond test (x ∷ filter p xs) (filter p xs)) (All-head (λ y. p y ≡ false) x xs all) ∙ filter_none p xs (All-tail (λ y. p y ≡ false) x xs all)

pub AllPairs-nil : {X : Type 0} (R : X → X → Type 0) → AllPairs R []
AllPairs-nil R i j d lt within = absurd (omega (arith, within))

AllPairs-head : {X : Type 0} (R : X → X → Type 0) (x : X) (xs : List X) → AllPairs R (x ∷ xs) → All (R x) xs
AllPairs-head R x xs pairs k d lt = pairs zero (suc k) d (omega arith) (omega (arith, lt))

AllPairs-tail : {X : Type 0} (R : X → X → Type 0) (x : X) (xs : List X) → AllPairs R (x ∷ xs) → AllPairs R xs
AllPairs-tail R x xs pairs i j d lt within = pairs (suc i) (suc j) d (omega (arith, lt)) (omega (arith, within))

-- two lists one after the other, where each of the first stands so to each of the second
pub AllPairs-append : {X : Type 0} (R : X → X → Type 0) (xs ys : List X) → AllPairs R xs → AllPairs R ys → All (λ x. All (R x) ys) xs
    → AllPairs R (xs ++ ys)
AllPairs-append R [] ys left right across = right
AllPairs-append R (x ∷ xs) ys left right across =
    let first = All-append (R x) xs ys (AllPairs-head R x xs left) (All-head (λ z. All (R z) ys) x xs across) in
    AllPairs-cons R x (xs ++ ys) first (AllPairs-append R xs ys (AllPairs-tail R x xs left) right (All-tail (λ z. All (R z) ys) x xs across))

-- where each stands so to each, each pair does
pub each_to_each : {X : Type 0} (R : X → X → Type 0) (xs : List X) → All (λ x. All (R x) xs) xs → AllPairs R xs
each_to_each R xs all i j d lt within = all i d (omega (arith, lt, within)) j d within

-- an element that was not written
pub set_apart : {X : Type 0} (xs : List X) (i : ℕ) (a : X) (j : ℕ) → j ≢ i → slice_get (set xs i a) j ≡ slice_get xs j
set_apart xs i a j other =
    elim (cases_lt j (length xs)) [
      | inl lt ↦
          let is = slice_get-get_or xs j a lt in
          set_other xs i a j (get_or xs j a) other is ∙ sym is
      | inr le ↦ slice_get_past (set xs i a) j (omega (arith, le, length-set xs i a)) ∙ sym (slice_get_past xs j le)
    ]
