-- The bits of words: which is the first that is 0, and what setting one changes.
use Rattle.std.proofs.Common.{◌≡◌, ◌≢◌, ℕ, zero, suc, ◌+◌, ◌-◌, ◌*◌, ◌/◌, ◌%◌, ◌^◌, ◌<◌, ◌≤◌, max, Bool, true, false, cond, eqb, List, [], ◌∷◌, ◌++◌, length, get_or, set, get_or-set_same, get_or-set_other, refl, sym, ap, ◌∙◌, arith, inl, inr}
use Rattle.std.specs.Int.{w64, bit_at, trailing_ones}
use Rattle.std.specs.Int.RustNames.{bit_or}
use Rattle.std.proofs.lemmas.Bool.{cases_lt, cases_eq, eq-eqb, ne_eqb}
use Rattle.std.proofs.lemmas.Nat.{or_lt, one_shl}
use Rattle.std.proofs.lemmas.Nat.Bits.{bit_at_or, bit_at_ones, bit_at_ones_above, bit_at-trailing_ones, bit_at-lt, bit_at_set_same, bit_at_set_other}
use Rattle.net_bag.specs.Index.{bit_in, IsFirstUnset, IsFirstUnsetIn}

-- a word with all bits below a place set
abbrev pub masked_from : ℕ → ℕ → ℕ
masked_from word low = bit_or word (2 ^ low - 1)

masked_above : (word low i : ℕ) → low ≤ i → bit_at (masked_from word low) i ≡ bit_at word i
masked_above word low i above = omega (arith, bit_at_or word (2 ^ low - 1) i, bit_at_ones_above low i above)

masked_below : (word low i : ℕ) → i < low → bit_at (masked_from word low) i ≡ 1
masked_below word low i below = omega (arith, bit_at_or word (2 ^ low - 1) i, bit_at_ones low i below, bit_at-lt word i)

-- a place in the word is 0
pub unset_found : (word low : ℕ) → low < 64 → masked_from word low < 2 ^ 64 → masked_from word low ≢ 2 ^ 64 - 1 → IsFirstUnset word low (trailing_ones w64 (masked_from word low))
unset_found word low within fits some =
    let masked = masked_from word low in
    let t = trailing_ones w64 masked in
    let first = bit_at-trailing_ones w64 masked (omega arith) in
    let from : low ≤ t = elim (cases_lt t low) [ inl lt ↦ absurd (omega (arith, masked_below word low t lt, first.1)) | inr le ↦ le ] in
    record {
      from = from;
      within = first.0;
      unset = sym (masked_above word low t from) ∙ first.1;
      set_before = λ i above before. sym (masked_above word low i above) ∙ first.2 i before;
    }

-- no place from low on is
pub unset_missed : (word low : ℕ) → masked_from word low ≡ 2 ^ 64 - 1 → (i : ℕ) → low ≤ i → i < 64 → bit_at word i ≡ 1
unset_missed word low all i above within =
    sym (masked_above word low i above) ∙ ap (λ n. bit_at n i) all ∙ bit_at_ones 64 i within

-- the bits from low on up to a place of word w are set
pub record IsSetUpTo (words : List ℕ) (low w from : ℕ) : Type 0 where
  pub fits : from < 64
  pub reached : low ≤ 64 * w + from
  pub set_before : (j : ℕ) → low ≤ j → j < 64 * w + from → bit_in words j ≡ 1

-- a bit that is set, and all others
pub bit_in-set : (words : List ℕ) (i : ℕ) → i < 64 * length words → (j : ℕ) → bit_in (set words (i / 64) (bit_or (get_or words (i / 64) 0) (1 * 2 ^ (i % 64) % 2 ^ 64))) j ≡ cond (eqb j i) 1 (bit_in words j)
bit_in-set words i within j =
    let word = get_or words (i / 64) 0 in
    let new = bit_or word (1 * 2 ^ (i % 64) % 2 ^ 64) in
    elim (cases_eq (j / 64) (i / 64)) [
      | inl row ↦
          let there : get_or (set words (i / 64) new) (i / 64) 0 ≡ new = get_or-set_same words (i / 64) new 0 (omega arith) in
          elim (cases_eq (j % 64) (i % 64)) [
            | inl place ↦
                let same : j ≡ i = omega arith in
                rw (row, place, there, eq-eqb j i same) (bit_at_set_same w64 word (i % 64) (omega arith))
            | inr place ↦
                let other : eqb j i ≡ false = ne_eqb j i (λ same. place (ap (λ n. n % 64) same)) in
                rw (other, row, there) (bit_at_set_other w64 word (i % 64) (omega arith) (j % 64) place)
          ]
      | inr row ↦
          let other : eqb j i ≡ false = ne_eqb j i (λ same. row (ap (λ n. n / 64) same)) in
          rw (other, get_or-set_other words (i / 64) (j / 64) new 0 row) refl
    ]

-- the places of a word that has no bit from one place on that is 0
pub set_up_to_next : (words : List ℕ) (low w from : ℕ) → IsSetUpTo words low w from → ((i : ℕ) → from ≤ i → i < 64 → bit_at (get_or words w 0) i ≡ 1) → IsSetUpTo words low (w + 1) 0
set_up_to_next words low w from was all =
    record {
      fits = omega arith;
      reached = omega (arith, was.fits, was.reached);
      set_before = λ j above before. elim (cases_lt j (64 * w + from)) [
        | inl lt ↦ was.set_before j above lt
        | inr le ↦
            let row : j / 64 ≡ w = omega arith in
            ap (λ k. bit_at (get_or words k 0) (j % 64)) row ∙ all (j % 64) (omega (arith, was.fits)) (omega arith)
      ];
    }

-- and where it has one
pub unset_found_in : (words : List ℕ) (low w from t : ℕ) → w < length words → IsSetUpTo words low w from → IsFirstUnset (get_or words w 0) from t → IsFirstUnsetIn words low (64 * w + t)
unset_found_in words low w from t within was found =
    let row : (64 * w + t) / 64 ≡ w = omega (arith, found.within) in
    let place : (64 * w + t) % 64 ≡ t = omega (arith, found.within) in
    record {
      from = omega (arith, was.reached, found.from);
      within = omega (arith, found.within);
      unset = ap (λ k. bit_at (get_or words k 0) ((64 * w + t) % 64)) row ∙ ap (bit_at (get_or words w 0)) place ∙ found.unset;
      set_before = λ j above before. elim (cases_lt j (64 * w + from)) [
        | inl lt ↦ was.set_before j above lt
        | inr le ↦
            let its : j / 64 ≡ w = omega (arith, found.within) in
            ap (λ k. bit_at (get_or words k 0) (j % 64)) its ∙ found.set_before (j % 64) (omega (arith, was.fits)) (omega (arith, found.within))
      ];
    }
