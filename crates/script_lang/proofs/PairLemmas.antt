-- Pairs by their words: a pair is two numbers with its sign.
use Rattle.std.proofs.Common.{◌≡◌, ◌≢◌, ℕ, List, ◌++◌, drop, refl, sym, ap, ◌∙◌, subst, arith}
use Rattle.std.specs.Prelude.{codes}
use Rattle.std.specs.Fmt.{decimal}
use Rattle.kr_order.specs.declared.ids.EventId.{EventId}
use Rattle.kr_order.specs.declared.batch.Kind.{Kind}
use Rattle.kr_order.specs.declared.batch.Kind.TheVariants.{Must, Prefer}
use Rattle.kr_order.specs.declared.batch.Pair.{Pair}
use Rattle.kr_order.specs.Text.{kind_sign, pair_word, asked_word}
use Rattle.script_lang.specs.Line.{HasNoEnd}
use Rattle.script_lang.specs.Number.{IsDigit, BeginsNoDigit, ReadsTwo, two_numbers}
use Rattle.script_lang.specs.Event.{IsPair, IsAskedPair}
use Rattle.script_lang.specs.Reading.{IsReadOnce, ReadsWord}
use Rattle.script_lang.proofs.NumberLemmas.{two_once, two_have_no_end}

-- the byte between the events of a pair
abbrev pub sign_of : Kind → ℕ
sign_of Must = 33
sign_of Prefer = 63

pub sign_is_no_digit : (kind : Kind) → IsDigit (sign_of kind) → ⊥
sign_is_no_digit Must digit = absurd (omega (arith, digit.0))
sign_is_no_digit Prefer digit = absurd (omega (arith, digit.1))

same_kind : (kind kind' : Kind) → sign_of kind ≡ sign_of kind' → kind ≡ kind'
same_kind Must Must _ = refl
same_kind Must Prefer same = absurd (omega (arith, same))
same_kind Prefer Must same = absurd (omega (arith, same))
same_kind Prefer Prefer _ = refl

-- a pair's word is two numbers with its sign
pub pair_word_is : (pair : Pair) → pair_word pair ≡ two_numbers pair.first.0 (sign_of pair.kind) pair.second.0
pair_word_is pair = by_kind pair.kind
  where
    by_kind : (kind : Kind) → decimal pair.first.0 ++ kind_sign kind ++ decimal pair.second.0 ≡ two_numbers pair.first.0 (sign_of kind) pair.second.0
    by_kind Must = refl
    by_kind Prefer = refl

-- a pair in front is two numbers in front
pub pair_is_two : (pair : Pair) (rest bytes : List ℕ) → IsPair pair → BeginsNoDigit rest → bytes ≡ pair_word pair ++ rest → ReadsTwo 18446744073709551615 18446744073709551615 bytes pair.first.0 (sign_of pair.kind) pair.second.0 rest
pair_is_two pair rest bytes fit ends is =
    record {
      first_fits = fit.first;
      sign_is_no_digit = sign_is_no_digit pair.kind;
      second_fits = fit.second;
      whole = is ∙ ap (λ w. w ++ rest) (pair_word_is pair);
      ends = ends;
    }

pub asked_is_two : (pair : EventId × EventId) (rest bytes : List ℕ) → IsAskedPair pair → BeginsNoDigit rest → bytes ≡ asked_word pair ++ rest → ReadsTwo 18446744073709551615 18446744073709551615 bytes pair.0.0 44 pair.1.0 rest
asked_is_two pair rest bytes fit ends is =
    record {
      first_fits = fit.first;
      sign_is_no_digit = λ digit. absurd (omega (arith, digit.0));
      second_fits = fit.second;
      whole = is;
      ends = ends;
    }

pub same_event : (one other : EventId) → one.0 ≡ other.0 → one ≡ other
same_event one other same = ap (λ n. let e : EventId = record { 0 = n } in e) same

same_pair : (one other : Pair) → one.first ≡ other.first → one.second ≡ other.second → one.kind ≡ other.kind → one ≡ other
same_pair one other firsts seconds kinds =
    let f : EventId → EventId → Kind → Pair = λ x y k. record { first = x; second = y; kind = k } in
    ap (λ x. f x one.second one.kind) firsts ∙ ap (λ y. f other.first y one.kind) seconds ∙ ap (λ k. f other.first other.second k) kinds

-- pairs of batches are known by their words
pub pairs_once : IsReadOnce pair_word IsPair
pairs_once = record {
  once = λ x y xs ys fit fit' ends ends' same.
      let two = two_once x.first.0 (sign_of x.kind) x.second.0 xs y.first.0 (sign_of y.kind) y.second.0 ys 18446744073709551615 18446744073709551615 18446744073709551615 18446744073709551615 (pair_word x ++ xs) (omega arith) (omega arith) (omega arith) (omega arith) (pair_is_two x xs (pair_word x ++ xs) fit ends refl) (pair_is_two y ys (pair_word x ++ xs) fit' ends' same) in
      (same_pair x y (same_event x.first y.first two.first) (same_event x.second y.second two.second) (same_kind x.kind y.kind two.sign_is), two.rest_is);
}

same_asked : (one other : EventId × EventId) → one.0 ≡ other.0 → one.1 ≡ other.1 → one ≡ other
same_asked one other firsts seconds =
    let f : EventId → EventId → EventId × EventId = λ x y. (x, y) in
    ap (λ x. f x one.1) firsts ∙ ap (λ y. f other.0 y) seconds

-- and so are pairs of queries
pub asked_once : IsReadOnce asked_word IsAskedPair
asked_once = record {
  once = λ x y xs ys fit fit' ends ends' same.
      let two = two_once x.0.0 44 x.1.0 xs y.0.0 44 y.1.0 ys 18446744073709551615 18446744073709551615 18446744073709551615 18446744073709551615 (asked_word x ++ xs) (omega arith) (omega arith) (omega arith) (omega arith) (asked_is_two x xs (asked_word x ++ xs) fit ends refl) (asked_is_two y ys (asked_word x ++ xs) fit' ends' same) in
      (same_asked x y (same_event x.0 y.0 two.first) (same_event x.1 y.1 two.second), two.rest_is);
}

-- pairs have no LF in them
pub pair_has_no_end : (pair : Pair) → IsPair pair → HasNoEnd (pair_word pair)
pair_has_no_end pair fit = subst HasNoEnd (sym (pair_word_is pair)) (two_have_no_end pair.first.0 (sign_of pair.kind) pair.second.0 (omega (arith, fit.first.high)) (no_end pair.kind) (omega (arith, fit.second.high)))
  where
    no_end : (kind : Kind) → sign_of kind ≢ 10
    no_end Must is = absurd (omega (arith, is))
    no_end Prefer is = absurd (omega (arith, is))

pub asked_has_no_end : (pair : EventId × EventId) → IsAskedPair pair → HasNoEnd (asked_word pair)
asked_has_no_end pair fit = two_have_no_end pair.0.0 44 pair.1.0 (omega (arith, fit.first.high)) (λ is. absurd (omega (arith, is))) (omega (arith, fit.second.high))

-- a word with another sign is no pair of a batch
pub no_pair_sign : (bytes word : List ℕ) (a sign b : ℕ) (after : List ℕ) → bytes ≡ codes " " ++ word → ReadsTwo 18446744073709551615 18446744073709551615 word a sign b after → ((kind : Kind) → sign ≢ sign_of kind) → (pair : Pair) (rest : List ℕ) → ReadsWord pair_word IsPair bytes pair rest → ⊥
no_pair_sign bytes word a sign b after is two other pair rest read =
    let behind : word ≡ pair_word pair ++ rest = ap (drop 1) (sym is ∙ read.whole) in
    other pair.kind ((two_once a sign b after pair.first.0 (sign_of pair.kind) pair.second.0 rest 18446744073709551615 18446744073709551615 18446744073709551615 18446744073709551615 word (omega arith) (omega arith) (omega arith) (omega arith) two (pair_is_two pair rest word read.fit read.ends behind)).sign_is)

-- nor of a query
pub no_asked_sign : (bytes word : List ℕ) (a sign b : ℕ) (after : List ℕ) → bytes ≡ codes " " ++ word → ReadsTwo 18446744073709551615 18446744073709551615 word a sign b after → sign ≢ 44 → (pair : EventId × EventId) (rest : List ℕ) → ReadsWord asked_word IsAskedPair bytes pair rest → ⊥
no_asked_sign bytes word a sign b after is two other pair rest read =
    let behind : word ≡ asked_word pair ++ rest = ap (drop 1) (sym is ∙ read.whole) in
    other ((two_once a sign b after pair.0.0 44 pair.1.0 rest 18446744073709551615 18446744073709551615 18446744073709551615 18446744073709551615 word (omega arith) (omega arith) (omega arith) (omega arith) two (asked_is_two pair rest word read.fit read.ends behind)).sign_is)
