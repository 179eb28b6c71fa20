-- The first line is read in one way.
use Rattle.std.proofs.Common.{◌≡◌, ℕ, List, [], ◌∷◌, ◌++◌, drop, sym, ap, ◌∙◌, arith, append_assoc}
use Rattle.std.specs.Prelude.{codes}
use Rattle.std.proofs.lemmas.List.{append_cancel_left}
use Rattle.script_lang.specs.Number.{ReadsTwo, two_numbers}
use Rattle.script_lang.specs.Script.{IsSize, BeginsWithSize, first_line}
use Rattle.script_lang.proofs.NumberLemmas.{two_once}

-- the first line is its word, two numbers and an LF
pub first_line-append : (servers clients : ℕ) (rest : List ℕ) → first_line servers clients ++ rest ≡ codes "cluster " ++ (two_numbers servers 32 clients ++ 10 ∷ rest)
first_line-append servers clients rest =
    ap (λ text. codes "cluster " ++ text) (append_assoc (two_numbers servers 32 clients) (10 ∷ []) rest)

-- behind its word it reads as two numbers
pub size_is_two : (bytes : List ℕ) (servers clients : ℕ) (rest : List ℕ) → IsSize servers clients → codes "cluster " ++ bytes ≡ first_line servers clients ++ rest → ReadsTwo 8 16 bytes servers 32 clients (10 ∷ rest)
size_is_two bytes servers clients rest size is =
    record {
      first_fits = size.servers_fit;
      sign_is_no_digit = λ digit. absurd (omega (arith, digit.0));
      second_fits = size.clients_fit;
      whole = append_cancel_left (codes "cluster ") bytes (two_numbers servers 32 clients ++ 10 ∷ rest) (is ∙ first_line-append servers clients rest);
      ends = λ digit. absurd (omega (arith, digit.0));
    }

-- where bytes begin with a first line, the two numbers behind its word have a space between and an LF after them
pub begins_so : (bytes behind : List ℕ) (first sign second : ℕ) (end : List ℕ) → bytes ≡ codes "cluster " ++ behind → ReadsTwo 8 16 behind first sign second end → (found : BeginsWithSize bytes) → (sign ≡ 32) × (end ≡ 10 ∷ found.2)
begins_so bytes behind first sign second end is read found =
    let other = size_is_two behind found.0 found.1 found.2 found.3 (sym is ∙ found.4) in
    let two = two_once first sign second end found.0 32 found.1 (10 ∷ found.2) 8 16 8 16 behind (omega arith) (omega arith) (omega arith) (omega arith) read other in
    (two.sign_is, two.rest_is)

-- two readings of a first line agree
pub record SameSize (servers clients : ℕ) (rest : List ℕ) (servers' clients' : ℕ) (rest' : List ℕ) : Type 0 where
  pub servers_are : servers ≡ servers'
  pub clients_are : clients ≡ clients'
  pub rest_is : rest ≡ rest'

pub size_once : (servers clients : ℕ) (rest : List ℕ) (servers' clients' : ℕ) (rest' : List ℕ) → IsSize servers clients → IsSize servers' clients' → first_line servers clients ++ rest ≡ first_line servers' clients' ++ rest' → SameSize servers clients rest servers' clients' rest'
size_once servers clients rest servers' clients' rest' size size' same =
    let bytes : List ℕ = two_numbers servers 32 clients ++ 10 ∷ rest in
    let one = size_is_two bytes servers clients rest size (sym (first_line-append servers clients rest)) in
    let other = size_is_two bytes servers' clients' rest' size' (sym (first_line-append servers clients rest) ∙ same) in
    let two = two_once servers 32 clients (10 ∷ rest) servers' 32 clients' (10 ∷ rest') 8 16 8 16 bytes (omega arith) (omega arith) (omega arith) (omega arith) one other in
    record { servers_are = two.first; clients_are = two.second; rest_is = ap (drop 1) two.rest_is }
