-- The lists of a round, by one number more.
use Rattle.std.proofs.Common.{suc, ◌≡◌, ℕ, ◌+◌, Bool, true, false, cond, List, [], ◌∷◌, ◌++◌, map, sym, ap, ◌∙◌, arith}
use Rattle.std.specs.Prelude.{filter, flat_map}
use Rattle.std.proofs.lemmas.Grind.{flat_map-append}
use Rattle.std.proofs.lemmas.List.{append-nil, map-append}
use Rattle.std.proofs.lemmas.List.Elements.{filter-append}
use Rattle.kr_order.specs.Numbers.{numbers_to}

pub numbers_to-next : (n : ℕ) → numbers_to (n + 1) ≡ numbers_to n ++ (n + 1) ∷ []
numbers_to-next n = let same : n + 1 ≡ suc n = omega arith in ap numbers_to same

-- what each number makes that passes a test
kept_next : {X : Type 0} (make : ℕ → X) (p : ℕ → Bool) (n : ℕ) (test : Bool) → p (n + 1) ≡ test → map make (filter p (numbers_to (n + 1))) ≡ map make (filter p (numbers_to n)) ++ map make (cond test ((n + 1) ∷ []) [])
kept_next make p n test is =
    let last : filter p ((n + 1) ∷ []) ≡ cond test ((n + 1) ∷ []) [] = ap (λ t. cond t ((n + 1) ∷ []) []) is in
    ap (λ ns. map make (filter p ns)) (numbers_to-next n) ∙ ap (map make) (filter-append p (numbers_to n) ((n + 1) ∷ []) ∙ ap (λ ns. filter p (numbers_to n) ++ ns) last) ∙ map-append make (filter p (numbers_to n)) (cond test ((n + 1) ∷ []) [])

pub kept_more : {X : Type 0} (make : ℕ → X) (p : ℕ → Bool) (n : ℕ) → p (n + 1) ≡ true → map make (filter p (numbers_to n)) ++ make (n + 1) ∷ [] ≡ map make (filter p (numbers_to (n + 1)))
kept_more make p n is = sym (kept_next make p n true is)

pub left_out : {X : Type 0} (make : ℕ → X) (p : ℕ → Bool) (n : ℕ) → p (n + 1) ≡ false → map make (filter p (numbers_to n)) ≡ map make (filter p (numbers_to (n + 1)))
left_out make p n is = sym (kept_next make p n false is ∙ append-nil (map make (filter p (numbers_to n))))

-- what each number gives
pub given_more : {Y : Type 0} (f : ℕ → List Y) (n : ℕ) → flat_map f (numbers_to n) ++ f (n + 1) ≡ flat_map f (numbers_to (n + 1))
given_more f n =
    ap (λ ys. flat_map f (numbers_to n) ++ ys) (sym (append-nil (f (n + 1)))) ∙ sym (flat_map-append f (numbers_to n) ((n + 1) ∷ [])) ∙ ap (flat_map f) (sym (numbers_to-next n))
