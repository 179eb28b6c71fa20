-- What stands in a list.
use Rattle.std.proofs.Common.{Bool, List, [], ap, arith, cond, false, inl, inr, map, refl, subst, suc, sym, true, zero, ℕ, ◌++◌, ◌+◌, ◌<◌, ◌∙◌, ◌∷◌, ◌≡◌, ◌≤◌, ◌⊎◌}
use Rattle.std.specs.Prelude.{Some, filter, flat_map, slice_get}
use Rattle.std.proofs.lemmas.Bool.{cases_lt, false≢true}
use Rattle.std.proofs.lemmas.List.Concat.{flat_map-cons}
use Rattle.std.proofs.lemmas.Option.{none-some, same_Some}
use Rattle.kr_order.specs.Numbers.{numbers_to}

-- it is one of these
abbrev pub IsIn : {X : Type 0} → X → List X → Type 0
IsIn x [] = ⊥
IsIn x (y ∷ ys) = (y ≡ x) ⊎ IsIn x ys

pub in_left : {X : Type 0} (x : X) (xs ys : List X) → IsIn x xs → IsIn x (xs ++ ys)
in_left x [] ys is = absurd is
in_left x (y ∷ xs) ys is = by_place (in_left x xs ys) is
  where
    by_place : (IsIn x xs → IsIn x (xs ++ ys)) → (y ≡ x) ⊎ IsIn x xs → (y ≡ x) ⊎ IsIn x (xs ++ ys)
    by_place rest (inl here) = inl here
    by_place rest (inr there) = inr (rest there)

pub in_right : {X : Type 0} (x : X) (xs ys : List X) → IsIn x ys → IsIn x (xs ++ ys)
in_right x [] ys is = is
in_right x (y ∷ xs) ys is = inr (in_right x xs ys is)

pub in_map : {X Y : Type 0} (f : X → Y) (x : X) (xs : List X) → IsIn x xs → IsIn (f x) (map f xs)
in_map f x [] is = is
in_map f x (y ∷ xs) is = by_place (in_map f x xs) is
  where
    by_place : (IsIn x xs → IsIn (f x) (map f xs)) → (y ≡ x) ⊎ IsIn x xs → (f y ≡ f x) ⊎ IsIn (f x) (map f xs)
    by_place rest (inl here) = inl (ap f here)
    by_place rest (inr there) = inr (rest there)

pub in_filter : {X : Type 0} (p : X → Bool) (x : X) (xs : List X) → p x ≡ true → IsIn x xs → IsIn x (filter p xs)
in_filter p x [] passes is = is
in_filter p x (y ∷ xs) passes is = by_test (p y) refl (in_filter p x xs passes) is
  where
    by_test : (test : Bool) → p y ≡ test → (IsIn x xs → IsIn x (filter p xs)) → (y ≡ x) ⊎ IsIn x xs → IsIn x (cond test (y ∷ filter p xs) (filter p xs))
    by_test true tested rest (inl here) = inl here
    by_test true tested rest (inr there) = inr (rest there)
    by_test false tested rest (inl here) = absurd (false≢true (sym tested ∙ ap p here ∙ passes))
    by_test false tested rest (inr there) = rest there

pub in_flat_map : {X Y : Type 0} (f : X → List Y) (y : Y) (x : X) (xs : List X) → IsIn x xs → IsIn y (f x) → IsIn y (flat_map f xs)
in_flat_map f y x [] is gives = absurd is
in_flat_map f y x (z ∷ xs) is gives =
    subst (IsIn y) (sym (flat_map-cons f z xs)) (by_place (λ there. in_flat_map f y x xs there gives) is)
  where
    by_place : (IsIn x xs → IsIn y (flat_map f xs)) → (z ≡ x) ⊎ IsIn x xs → IsIn y (f z ++ flat_map f xs)
    by_place rest (inl here) = in_left y (f z) (flat_map f xs) (subst (λ w. IsIn y (f w)) (sym here) gives)
    by_place rest (inr there) = in_right y (f z) (flat_map f xs) (rest there)

pub in_numbers : (k n : ℕ) → 1 ≤ k → k ≤ n → IsIn k (numbers_to n)
in_numbers k zero low high = absurd (omega arith)
in_numbers k (suc n) low high = by_place (in_numbers k n low) (cases_lt n k)
  where
    by_place : (k ≤ n → IsIn k (numbers_to n)) → (n < k) ⊎ (k ≤ n) → IsIn k (numbers_to n ++ (n + 1) ∷ [])
    by_place rest (inl last) = in_right k (numbers_to n) ((n + 1) ∷ []) (inl (omega arith))
    by_place rest (inr before) = in_left k (numbers_to n) ((n + 1) ∷ []) (rest before)

-- what stands at an index
pub in_at : {X : Type 0} (x : X) (xs : List X) (i : ℕ) → slice_get xs i ≡ Some x → IsIn x xs
in_at x [] i is = absurd (none-some x is)
in_at x (y ∷ xs) zero is = inl (same_Some y x is)
in_at x (y ∷ xs) (suc i) is = inr (in_at x xs i is)

-- and at which index it stands
pub at_in : {X : Type 0} (x : X) (xs : List X) → IsIn x xs → (i : ℕ) × (slice_get xs i ≡ Some x)
at_in x [] is = absurd is
at_in x (y ∷ xs) is = by_place (at_in x xs) is
  where
    by_place : (IsIn x xs → (i : ℕ) × (slice_get xs i ≡ Some x)) → (y ≡ x) ⊎ IsIn x xs → (i : ℕ) × (slice_get (y ∷ xs) i ≡ Some x)
    by_place rest (inl here) = (zero, ap (λ z. Some z) here)
    by_place rest (inr there) = let its = rest there in (suc its.0, its.1)

-- what a filter keeps passes
pub filtered : {X : Type 0} (p : X → Bool) (x : X) (xs : List X) → IsIn x (filter p xs) → p x ≡ true
filtered p x [] is = absurd is
filtered p x (y ∷ xs) is = by_test (p y) refl (filtered p x xs) is
  where
    by_test : (test : Bool) → p y ≡ test → (IsIn x (filter p xs) → p x ≡ true) → IsIn x (cond test (y ∷ filter p xs) (filter p xs)) → p x ≡ true
    by_test false fails rest is = rest is
    by_test true passes rest (inl here) = ap p (sym here) ∙ passes
    by_test true passes rest (inr there) = rest there
