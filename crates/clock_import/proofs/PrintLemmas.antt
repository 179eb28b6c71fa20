-- A number is put digit by digit, the last one behind those of its tenth.
use Rattle.std.proofs.Common.{◌≡◌, ℕ, ◌+◌, ◌/◌, ◌%◌, ◌^◌, ◌<◌, ◌≤◌, List, [], ◌∷◌, ◌++◌, sym, ap, ◌∙◌, arith, append_assoc}
use Rattle.std.specs.Fmt.{decimal}
use Rattle.std.proofs.lemmas.Fmt.{decimal_digit, decimal_step}

-- one digit
pub put_one : (old new : List ℕ) (n : ℕ) → n < 10 → new ≡ old ++ (48 + n % 10) ∷ [] → new ≡ old ++ decimal n
put_one old new n small is =
    let same : n % 10 ≡ n = omega arith in
    is ∙ ap (λ d. old ++ (48 + d) ∷ []) same ∙ sym (ap (λ ds. old ++ ds) (decimal_digit n small))

-- the last digit behind the others
pub put_last : (old mid new : List ℕ) (n : ℕ) → 10 ≤ n → n < 2 ^ 64 → mid ≡ old ++ decimal (n / 10)
    → new ≡ mid ++ (48 + n % 10) ∷ [] → new ≡ old ++ decimal n
put_last old mid new n some fits front is =
    is ∙ ap (λ ds. ds ++ (48 + n % 10) ∷ []) front ∙ append_assoc old (decimal (n / 10)) ((48 + n % 10) ∷ [])
    ∙ sym (ap (λ ds. old ++ ds) (decimal_step n some fits))

-- the last of two
pub put_second : (old mid new : List ℕ) (n : ℕ) → 10 ≤ n → n < 100 → mid ≡ old ++ (48 + n / 10) ∷ []
    → new ≡ mid ++ (48 + n % 10) ∷ [] → new ≡ old ++ decimal n
put_second old mid new n some few front is =
    put_last old mid new n some (omega arith) (front ∙ sym (ap (λ ds. old ++ ds) (decimal_digit (n / 10) (omega arith)))) is
