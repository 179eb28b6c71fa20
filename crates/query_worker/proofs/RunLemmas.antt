-- Runs of a list, one behind the other.
use Rattle.std.proofs.Common.{◌≡◌, ℕ, ◌+◌, ◌*◌, ◌<◌, List, ◌∷◌, ◌++◌, length, map, take, drop, get_or, sym, ap, ◌∙◌, arith, add-mul, one-mul}
use Rattle.std.specs.Fork.{slice_chunk}
use Rattle.std.proofs.lemmas.List.{drop-drop, get_or-drop, length-drop, map-append}
use Rattle.std.proofs.Math.Seq.{take-add}

-- an element is the first of those that are left
pub record IsNext {X : Type 0} (xs : List X) (n : ℕ) (x : X) (rest : List X) : Type 0 where
  pub below : n < length xs
  pub is : (d : X) → get_or xs n d ≡ x
  pub left : drop (n + 1) xs ≡ rest

pub is_next : {X : Type 0} (xs : List X) (n : ℕ) (x : X) (rest : List X) → drop n xs ≡ x ∷ rest → IsNext xs n x rest
is_next xs n x rest from =
    let plus : n ≡ n + 0 = omega arith in
    record {
      below = omega (arith, length-drop n xs, ap length from);
      is = λ d. ap (λ k. get_or xs k d) plus ∙ sym (get_or-drop n xs 0 d) ∙ ap (λ ys. get_or ys 0 d) from;
      left = sym (drop-drop 1 n xs) ∙ ap (drop 1) from;
    }

-- what is told to the next run stands behind what was told to those before it
pub told-next : {X Y : Type 0} (f : X → Y) (xs : List X) (k size : ℕ) (all more : List Y) → all ≡ map f (take (k * size) xs) → more ≡ map f (slice_chunk xs size k) → all ++ more ≡ map f (take ((k + 1) * size) xs)
told-next f xs k size all more were are =
    let longer : (k + 1) * size ≡ k * size + size = add-mul k 1 size ∙ ap (λ n. k * size + n) (one-mul size) in
    ap (λ ys. ys ++ more) were ∙ ap (λ ys. map f (take (k * size) xs) ++ ys) are ∙ sym (map-append f (take (k * size) xs) (slice_chunk xs size k)) ∙ ap (map f) (sym (take-add (k * size) size xs) ∙ ap (λ n. take n xs) (sym longer))
