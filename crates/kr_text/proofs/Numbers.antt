-- Which texts are the text of a number.
use Rattle.std.proofs.Common.{◌≡◌, ◌≢◌, ℕ, ◌^◌, ◌<◌, List, length, get_or, zero, suc, refl, Result, Ok, Err, sym, ◌∙◌, ap, subst, arith}
use Rattle.std.specs.Fmt.{decimal}
use Rattle.std.specs.Str.{IsUtf8}
use Rattle.std.specs.Str.Parse.{AllDigits, digits_value, ParsesUnsigned}
use Rattle.std.specs.Prelude.{IfSome, IfNone}
use Rattle.std.specs.Result.{result_ok}
use Rattle.std.proofs.lemmas.Str.{IsUtf8-from_ascii}
use Rattle.std.proofs.lemmas.Str.Parse.{IsNumeralModel, numerals_by_value, tells_digits, parse_plain, digit_at}
use Rattle.std.proofs.lemmas.Fmt.{decimal-digits_value, digits_decimal, decimal_nonempty, decimal_digit, first_decimal, IsAscii-decimal, parse-decimal}
use Rattle.kr_text.specs.Number.{BeginsPlain}

own : IsNumeralModel (AllDigits 10) (digits_value 10)
own = numerals_by_value (AllDigits 10) tells_digits

-- a text that parses and begins plain is the text of the number
pub parsed_some : {E : Type 0} (bs : List ℕ) (r : Result ℕ E)
    → BeginsPlain bs → ParsesUnsigned 64 10 bs r → IfSome (result_ok r) (λ n. bs ≡ decimal n)
parsed_some {E = E} bs (Ok n) front parses =
    let known = parse_plain own {E = E} 64 bs (Ok n) parses front.plus in
    sym (ap decimal known.1 ∙ decimal-digits_value own bs known.0.0 known.0.1 front.zero known.0.2)
parsed_some {E = E} bs (Err e) front parses = tt

-- a text that does not parse is the text of no number
pub parsed_none : {E : Type 0} (bs : List ℕ) (r : Result ℕ E)
    → ParsesUnsigned 64 10 bs r → IfNone (result_ok r) ((n : ℕ) → n < 2 ^ 64 → bs ≢ decimal n)
parsed_none {E = E} bs (Ok n) parses = tt
parsed_none {E = E} bs (Err e) parses = λ n small is_text.
    let parsed = parse-decimal {E = E} 64 n bs (Err e) small small is_text parses in
    cc

-- `0` is the one text with a zero in front
decimal_zero : (n : ℕ) → n < 2 ^ 64 → get_or (decimal n) 0 0 ≡ 48 → length (decimal n) ≡ 1
decimal_zero zero small front = rw (decimal_digit 0 (omega arith)) refl
decimal_zero (suc n) small front = absurd (omega (arith, first_decimal (suc n) (omega arith) small))

decimal_begins_plain : (n : ℕ) → n < 2 ^ 64 → BeginsPlain (decimal n)
decimal_begins_plain n small =
    let some = decimal_nonempty n small in
    let digit = digit_at (decimal n) 0 (digits_decimal own n small) some in
    record {
      some = some;
      plus = λ plus. omega (arith, digit);
      zero = decimal_zero n small;
    }

-- the text of a number begins as one may
pub begins_plain_if_number : (bs : List ℕ) (n : ℕ) → n < 2 ^ 64 → bs ≡ decimal n → BeginsPlain bs
begins_plain_if_number bs n small is_text = subst BeginsPlain (sym is_text) (decimal_begins_plain n small)

-- the text of a number is UTF-8
pub utf8_if_number : (bs : List ℕ) (n : ℕ) → n < 2 ^ 64 → bs ≡ decimal n → IsUtf8 bs
utf8_if_number bs n small is_text = subst IsUtf8 (sym is_text) (IsUtf8-from_ascii (decimal n) (IsAscii-decimal n small))
