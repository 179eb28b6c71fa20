-- Elements of lists that grow at the end, or of which one is written.
use Rattle.std.proofs.Common.{◌≡◌, ◌≢◌, ℕ, ◌+◌, ◌<◌, List, [], ◌∷◌, ◌++◌, length, take, drop, set, get_or, sym, ap, ◌∙◌, subst, arith, inl, inr}
use Rattle.std.specs.Prelude.{Some, slice_get, All}
use Rattle.std.proofs.lemmas.Bool.{cases_eq}
use Rattle.std.proofs.lemmas.List.{length-set, get_or-set_same, get_or-set_other, take_more, drop_more, take-append-drop}
use Rattle.std.proofs.lemmas.List.Elements.{All-nil, All-cons}
use Rattle.std.proofs.lemmas.Option.{slice_get_within, slice_get-get_or, get_or_from_slice_get}

-- the list, cut at the element of an index
pub split_at :
    {X : Type 0} (xs : List X) (i : ℕ) (x : X)
    → slice_get xs i ≡ Some x
    → xs ≡ take i xs ++ x ∷ drop (i + 1) xs
split_at xs i x is =
    let lt = slice_get_within xs i x is in
    sym (take-append-drop i xs) ∙ ap (λ ys. take i xs ++ ys) (drop_more xs i x lt ∙ ap (λ y. y ∷ drop (i + 1) xs) (get_or_from_slice_get xs i x x is))

-- the front up to an element, with it
pub take_with :
    {X : Type 0} (xs : List X) (i : ℕ) (x : X)
    → slice_get xs i ≡ Some x
    → take (i + 1) xs ≡ take i xs ++ x ∷ []
take_with xs i x is =
    take_more xs i x (slice_get_within xs i x is) ∙ ap (λ y. take i xs ++ y ∷ []) (get_or_from_slice_get xs i x x is)

-- what holds of what was written, and of the other elements, holds of each element
pub each_after_set :
    {X : Type 0} (P : ℕ → X → Type 0) (xs : List X) (i : ℕ) (a : X)
    → P i a
    → ((j : ℕ) (x : X) → j ≢ i → slice_get xs j ≡ Some x → P j x)
    → (j : ℕ) (x : X)
    → slice_get (set xs i a) j ≡ Some x
    → P j x
each_after_set P xs i a here others j x is =
    elim (cases_eq j i) [
      | inl same ↦
          let lt : j < length xs = subst (λ n. j < n) (length-set xs i a) (slice_get_within (set xs i a) j x is) in
          let lt_i : i < length xs = omega arith in
          let written : a ≡ x =
          sym (get_or-set_same xs i a x lt_i) ∙ get_or_from_slice_get (set xs i a) i x x (subst (λ k. slice_get (set xs i a) k ≡ Some x) same is) in
          subst (λ k. P k x) (sym same) (subst (λ y. P i y) written here)
      | inr other ↦
          let lt : j < length xs = subst (λ n. j < n) (length-set xs i a) (slice_get_within (set xs i a) j x is) in
          let kept : get_or xs j x ≡ x = sym (get_or-set_other xs i j a x other) ∙ get_or_from_slice_get (set xs i a) j x x is in
          others j x other (slice_get-get_or xs j x lt ∙ ap (λ y. Some y) kept)
    ]

-- what was written stands there
pub set_here : {X : Type 0} (xs : List X) (i : ℕ) (a : X) → i < length xs → slice_get (set xs i a) i ≡ Some a
set_here xs i a lt =
    slice_get-get_or (set xs i a) i a (omega (arith, length-set xs i a)) ∙ ap (λ y. Some y) (get_or-set_same xs i a a lt)

-- and the others where they stood
pub set_other :
    {X : Type 0} (xs : List X) (i : ℕ) (a : X) (j : ℕ) (x : X)
    → j ≢ i
    → slice_get xs j ≡ Some x
    → slice_get (set xs i a) j ≡ Some x
set_other xs i a j x other is =
    slice_get-get_or (set xs i a) j x (omega (arith, length-set xs i a, slice_get_within xs j x is)) ∙ ap (λ y. Some y) (get_or-set_other xs i j a x other ∙ get_or_from_slice_get xs j x x is)

-- what holds of each element
pub all_of : {X : Type 0} (P : X → Type 0) → ((x : X) → P x) → (xs : List X) → All P xs
all_of P each [] = All-nil P
all_of P each (x ∷ xs) = All-cons P x xs (each x) (all_of P each xs)
