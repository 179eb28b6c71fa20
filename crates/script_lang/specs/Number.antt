-- Numbers in a line: decimal, from 1 on. A number ends where no digit follows.
use Rattle.std.specs.Prelude.{◌≡◌, ℕ, ◌≤◌, List, [], ◌∷◌, ◌++◌}
use Rattle.std.specs.Fmt.{decimal}

-- a number that a line may give, where this is the greatest
pub record IsFromOneTo (most n : ℕ) : Type 0 where
  pub low : 1 ≤ n
  pub high : n ≤ most

-- a byte from 0 to 9
abbrev pub IsDigit : ℕ → Type 0
IsDigit byte = (48 ≤ byte) × (byte ≤ 57)

-- the bytes do not go on with such a byte
abbrev pub BeginsNo : (ℕ → Type 0) → List ℕ → Type 0
BeginsNo Such [] = Unit {0}
BeginsNo Such (byte ∷ bytes) = Such byte → ⊥

-- the bytes do not go on with a digit
abbrev pub BeginsNoDigit : List ℕ → Type 0
BeginsNoDigit bytes = BeginsNo IsDigit bytes

-- the bytes are a number, and then the rest
pub record ReadsNumber (most : ℕ) (bytes : List ℕ) (n : ℕ) (rest : List ℕ) : Type 0 where
  pub fit : IsFromOneTo most n
  pub whole : bytes ≡ decimal n ++ rest
  pub ends : BeginsNoDigit rest

-- two numbers with a sign between them
abbrev pub two_numbers : ℕ → ℕ → ℕ → List ℕ
two_numbers first sign second = decimal first ++ sign ∷ [] ++ decimal second

-- the bytes are two numbers with a sign between them, and then the rest
pub record ReadsTwo (most most' : ℕ) (bytes : List ℕ) (first sign second : ℕ) (rest : List ℕ) : Type 0 where
  pub first_fits : IsFromOneTo most first
  pub sign_is_no_digit : IsDigit sign → ⊥
  pub second_fits : IsFromOneTo most' second
  pub whole : bytes ≡ two_numbers first sign second ++ rest
  pub ends : BeginsNoDigit rest
