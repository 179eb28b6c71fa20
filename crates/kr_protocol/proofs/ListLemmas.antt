-- Elements of a list with more behind it, and how many numbers there are.
use Rattle.std.proofs.Common.{zero, suc, ◌≡◌, ℕ, ◌+◌, ◌<◌, List, [], ◌∷◌, ◌++◌, length, refl, sym, ap, ◌∙◌, arith}
use Rattle.std.specs.Prelude.{Some, slice_get}
use Rattle.std.proofs.lemmas.List.{length-append, get_or_append_left, get_or_at}
use Rattle.std.proofs.lemmas.Option.{slice_get_within, slice_get-get_or, get_or_from_slice_get}
use Rattle.kr_order.specs.Numbers.{numbers_to}

pub slice_get_left :
    {X : Type 0} (xs ys : List X) (k : ℕ) (x : X)
    → slice_get xs k ≡ Some x
    → slice_get (xs ++ ys) k ≡ Some x
slice_get_left xs ys k x is =
    let lt = slice_get_within xs k x is in
    slice_get-get_or (xs ++ ys) k x (omega (arith, length-append xs ys)) ∙ ap (λ y. Some y) (get_or_append_left xs ys x k lt ∙ get_or_from_slice_get xs k x x is)

pub slice_get_front :
    {X : Type 0} (xs ys : List X) (k : ℕ) (x : X)
    → k < length xs
    → slice_get (xs ++ ys) k ≡ Some x
    → slice_get xs k ≡ Some x
slice_get_front xs ys k x lt is =
    slice_get-get_or xs k x lt ∙ ap (λ y. Some y) (sym (get_or_append_left xs ys x k lt) ∙ get_or_from_slice_get (xs ++ ys) k x x is)

pub slice_get_at :
    {X : Type 0} (xs : List X) (x : X) (ys : List X) (k : ℕ)
    → length xs ≡ k
    → slice_get (xs ++ x ∷ ys) k ≡ Some x
slice_get_at xs x ys k is =
    slice_get-get_or (xs ++ x ∷ ys) k x (omega (arith, length-append xs (x ∷ ys))) ∙ ap (λ y. Some y) (get_or_at xs x ys x k is)

-- there are so many numbers up to one
pub length-numbers_to : (n : ℕ) → length (numbers_to n) ≡ n
length-numbers_to zero = refl
length-numbers_to (suc n) = omega (arith, length-append (numbers_to n) ((n + 1) ∷ []), length-numbers_to n)
