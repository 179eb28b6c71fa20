-- A number in front of bytes is read in one way, and so are two with a sign between them.
use Rattle.std.proofs.Common.{◌≡◌, ◌≢◌, ℕ, ◌+◌, ◌%◌, ◌^◌, ◌<◌, ◌-◌, List, [], ◌∷◌, ◌++◌, length, take, drop, sym, ap, ◌∙◌, arith, append_assoc}
use Rattle.std.specs.Prelude.{All}
use Rattle.std.specs.Fmt.{decimal}
use Rattle.std.proofs.lemmas.Fmt.{decimal_by_steps, decimal_injective}
use Rattle.std.proofs.lemmas.List.{take_all}
use Rattle.std.proofs.lemmas.List.Elements.{All-append, All-nil, All-cons, All-weaker}
use Rattle.script_lang.specs.Line.{HasNoEnd}
use Rattle.script_lang.specs.Number.{IsFromOneTo, IsDigit, BeginsNoDigit, ReadsNumber, ReadsTwo, two_numbers}
use Rattle.script_lang.proofs.LineLemmas.{cut_once, free_append}

-- a number is spelt by digits
pub decimal_is_digits : (n : ℕ) → n < 2 ^ 64 → All IsDigit (decimal n)
decimal_is_digits n fits = decimal_by_steps (λ _ ds. All IsDigit ds) (λ d small. one d small) (λ m ds _ front. All-append IsDigit ds _ front (one (m % 10) (omega arith))) n fits
  where
    one : (d : ℕ) → d < 10 → All IsDigit ((48 + d) ∷ [])
    one d small = All-cons IsDigit (48 + d) [] (omega arith, omega arith) (All-nil IsDigit)

-- and has no LF in it
pub decimal_has_no_end : (n : ℕ) → n < 2 ^ 64 → HasNoEnd (decimal n)
decimal_has_no_end n fits = All-weaker IsDigit (λ b. b ≢ 10) (λ b digit is. absurd (omega arith)) (decimal n) (decimal_is_digits n fits)

-- a number in front is read in one way
pub number_once : (m n : ℕ) (xs ys : List ℕ) → m < 2 ^ 64 → n < 2 ^ 64 → BeginsNoDigit xs → BeginsNoDigit ys → decimal m ++ xs ≡ decimal n ++ ys → (m ≡ n) × (xs ≡ ys)
number_once m n xs ys fit fit' ends ends' e =
    let cut = cut_once IsDigit (decimal m) xs (decimal n) ys (decimal_is_digits m fit) (decimal_is_digits n fit') ends ends' e in
    (decimal_injective m n fit fit' cut.0, cut.1)

-- digits that spell no number leave no number in front
pub no_number : (most : ℕ) (bytes digits rest : List ℕ) → most < 2 ^ 64 → bytes ≡ digits ++ rest → All IsDigit digits → BeginsNoDigit rest → ((n : ℕ) → IsFromOneTo most n → digits ≢ decimal n) → (n : ℕ) (after : List ℕ) → ReadsNumber most bytes n after → ⊥
no_number most bytes digits rest small whole each ends none n after read =
    none n read.fit ((cut_once IsDigit digits rest (decimal n) after each (decimal_is_digits n (omega (arith, read.fit.high))) ends read.ends (sym whole ∙ read.whole)).0)

-- the parts of two numbers with a sign, each behind the one before
pub two_numbers-append : (a sign b : ℕ) (rest : List ℕ) → two_numbers a sign b ++ rest ≡ decimal a ++ sign ∷ (decimal b ++ rest)
two_numbers-append a sign b rest =
    append_assoc (decimal a ++ sign ∷ []) (decimal b) rest ∙ append_assoc (decimal a) (sign ∷ []) (decimal b ++ rest)

-- two readings agree
pub record SameTwo (a sign b : ℕ) (rest : List ℕ) (a' sign' b' : ℕ) (rest' : List ℕ) : Type 0 where
  pub first : a ≡ a'
  pub sign_is : sign ≡ sign'
  pub second : b ≡ b'
  pub rest_is : rest ≡ rest'

-- two numbers in front are read in one way
pub two_once : (a sign b : ℕ) (rest : List ℕ) (a' sign' b' : ℕ) (rest' : List ℕ) (most most' limit limit' : ℕ) (bytes : List ℕ) → most < 2 ^ 64 → most' < 2 ^ 64 → limit < 2 ^ 64 → limit' < 2 ^ 64 → ReadsTwo most most' bytes a sign b rest → ReadsTwo limit limit' bytes a' sign' b' rest' → SameTwo a sign b rest a' sign' b' rest'
two_once a sign b rest a' sign' b' rest' most most' limit limit' bytes m m' l l' one other =
    let same : decimal a ++ sign ∷ (decimal b ++ rest) ≡ decimal a' ++ sign' ∷ (decimal b' ++ rest') = sym (one.whole ∙ two_numbers-append a sign b rest) ∙ other.whole ∙ two_numbers-append a' sign' b' rest' in
    let firsts = number_once a a' (sign ∷ (decimal b ++ rest)) (sign' ∷ (decimal b' ++ rest')) (omega (arith, one.first_fits.high)) (omega (arith, other.first_fits.high)) one.sign_is_no_digit other.sign_is_no_digit same in
    let seconds = number_once b b' rest rest' (omega (arith, one.second_fits.high)) (omega (arith, other.second_fits.high)) one.ends other.ends (ap (drop 1) firsts.1) in
    let rests : sign ∷ (decimal b ++ rest) ≡ sign' ∷ (decimal b' ++ rest') = firsts.1 in
    record { first = firsts.0; sign_is = cc; second = seconds.0; rest_is = seconds.1 }

-- what is behind the first of two numbers
pub behind_first : (most most' : ℕ) (bytes : List ℕ) (n : ℕ) (after : List ℕ) (a sign b : ℕ) (rest : List ℕ) → most < 2 ^ 64 → ReadsNumber most bytes n after → ReadsTwo most most' bytes a sign b rest → after ≡ sign ∷ (decimal b ++ rest)
behind_first most most' bytes n after a sign b rest small one two =
    (number_once n a after (sign ∷ (decimal b ++ rest)) (omega (arith, one.fit.high)) (omega (arith, two.first_fits.high)) one.ends two.sign_is_no_digit (sym one.whole ∙ two.whole ∙ two_numbers-append a sign b rest)).1

-- what is behind a first byte
pub tail_is : (bytes : List ℕ) (sign : ℕ) (rest : List ℕ) → bytes ≡ sign ∷ rest → take (length bytes - 1) (drop 1 bytes) ≡ rest
tail_is bytes sign rest is =
    ap (λ b. take (length b - 1) (drop 1 b)) is ∙ take_all (length (sign ∷ rest) - 1) rest (omega arith)

-- two numbers have no LF in them where their sign is none
pub two_have_no_end : (a sign b : ℕ) → a < 2 ^ 64 → sign ≢ 10 → b < 2 ^ 64 → HasNoEnd (two_numbers a sign b)
two_have_no_end a sign b fit free fit' =
    free_append (decimal a ++ sign ∷ []) (decimal b) (free_append (decimal a) (sign ∷ []) (decimal_has_no_end a fit) (All-cons (λ b. b ≢ 10) sign [] free (All-nil (λ b. b ≢ 10)))) (decimal_has_no_end b fit')
