-- Sums over a list whose items are looked up by `get_elem?`.
use Rattle.std.proofs.Common.{◌≡◌, ℕ, zero, suc, ◌+◌, ◌*◌, ◌≤◌, List, [], ◌∷◌, set, sum_by, sym, ap, ◌∙◌, mul-add, suc-mul, All, length, arith}
use Rattle.std.proofs.lemmas.List.Sums.{sum_by-cons}
use Rattle.std.proofs.lemmas.List.Elements.{All-head, All-tail}
use mathlib.Core.Option.{some, some-injective, some-ne-none}
use lib.ListN.{get_elem?}

module _ {A : Type 0} (f : A → ℕ) where
  -- after a change of one item
  pub sum_by-set_at : (l : List A) (i : ℕ) (a b : A) → get_elem? l i ≡ some a → sum_by f (set l i b) + f a ≡ sum_by f l + f b
  sum_by-set_at [] i a b at = absurd (some-ne-none a (sym at))
  sum_by-set_at (x ∷ xs) zero a b at = omega (arith, sum_by-cons f x xs, sum_by-cons f b xs, ap f (some-injective x a at))
  sum_by-set_at (x ∷ xs) (suc i) a b at =
      omega (arith, sum_by-cons f x xs, sum_by-cons f x (set xs i b), sum_by-set_at xs i a b at)

  -- one item is no more than all
  pub le-sum_by : (l : List A) (i : ℕ) (a : A) → get_elem? l i ≡ some a → f a ≤ sum_by f l
  le-sum_by [] i a at = absurd (some-ne-none a (sym at))
  le-sum_by (x ∷ xs) zero a at = omega (arith, sum_by-cons f x xs, ap f (some-injective x a at))
  le-sum_by (x ∷ xs) (suc i) a at = omega (arith, sum_by-cons f x xs, le-sum_by xs i a at)

  -- where each item has at most so many times as much of one thing as of another, so have all together
  pub sum_by-le-times : (g : A → ℕ) (k : ℕ) (l : List A) → ((i : ℕ) (a : A) → get_elem? l i ≡ some a → g a ≤ k * f a)
      → sum_by g l ≤ k * sum_by f l
  sum_by-le-times g k [] each = omega arith
  sum_by-le-times g k (x ∷ xs) each =
      let first : g x ≤ k * f x = each zero x (λ _. some x) in
      let more : sum_by g xs ≤ k * sum_by f xs = sum_by-le-times g k xs (λ i a at. each (suc i) a at) in
      let all : k * sum_by f (x ∷ xs) ≡ k * f x + k * sum_by f xs =
      ap (λ n. k * n) (sum_by-cons f x xs) ∙ mul-add k (f x) (sum_by f xs) in
      omega (arith, sum_by-cons g x xs)

  -- where all items have as much, all together have it as often as there are items
  pub sum_by-same : (k : ℕ) (l : List A) → All (λ (a : A). f a ≡ k) l → sum_by f l ≡ length l * k
  sum_by-same k [] each = omega arith
  sum_by-same k (x ∷ xs) each =
      let first : f x ≡ k = All-head (λ (a : A). f a ≡ k) x xs each in
      omega (arith, sum_by-cons f x xs, sum_by-same k xs (All-tail (λ (a : A). f a ≡ k) x xs each), suc-mul (length xs) k)
