-- Which words ask for what.
use Rattle.std.proofs.Common.{◌≡◌, ℕ, inl, inr, List, [], ◌∷◌, arith}
use Rattle.std.specs.Prelude.{codes}
use Rattle.std.specs.Fmt.{decimal}
use Rattle.std.proofs.lemmas.Fmt.{decimal_injective}
use Rattle.kronos_driver.specs.Ends.{IsForm}

-- no words ask for a load of no rounds
pub no_rounds : (word number : List ℕ) → number ≡ decimal 0 → IsForm (word ∷ number ∷ []) → ⊥
no_rounds word number zero_is form =
    elim form [
      | inl script ↦ let e : word ∷ number ∷ [] ≡ codes "script" ∷ [] = script in cc
      | inr more ↦ elim more [
        | inr log ↦ let e : word ∷ number ∷ [] ≡ codes "import" ∷ [] = log in cc
        | inl load ↦
            let e : word ∷ number ∷ [] ≡ codes "load" ∷ decimal load.0 ∷ [] = load.1.words_are in
            let same : decimal 0 ≡ decimal load.0 = cc in
            let low = load.1.size.low in
            let high = load.1.size.high in
            let none : 0 ≡ load.0 = decimal_injective 0 load.0 (omega arith) (omega arith) same in
            absurd (omega arith)
      ]
    ]
