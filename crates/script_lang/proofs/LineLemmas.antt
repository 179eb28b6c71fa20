-- Bytes are cut in one way where the first byte of some kind stands; a front.
use Rattle.std.proofs.Common.{◌≡◌, ◌≢◌, ℕ, Bool, true, false, nat_eq, eqb, not, ◌&&◌, List, [], ◌∷◌, ◌++◌, length, take, drop, refl, sym, ap, ◌∙◌, subst, append_assoc, eq-eqb}
use Rattle.std.specs.Prelude.{All}
use Rattle.std.specs.Cmp.Lexicographic.{same_text}
use lib.Pointwise.{pointwise}
use Rattle.std.proofs.lemmas.Bool.{false≢true}
use Rattle.std.proofs.lemmas.List.{take-append-drop}
use Rattle.std.proofs.lemmas.List.Elements.{All-append, All-head, All-tail, All-nil, All-cons}
use Rattle.std.proofs.Math.Seq.{take-append_seam}
use Rattle.script_lang.specs.Line.{line, HasNoEnd}
use Rattle.script_lang.specs.Number.{BeginsNo}

-- bytes are cut in one way where the first byte stands that is not such
pub cut_once : (Such : ℕ → Type 0) (xs ys us vs : List ℕ) → All Such xs → All Such us → BeginsNo Such ys → BeginsNo Such vs → xs ++ ys ≡ us ++ vs → (xs ≡ us) × (ys ≡ vs)
cut_once Such [] ys [] vs _ _ _ _ e = (refl, e)
cut_once Such [] ys (u ∷ us) vs _ each ends _ e = absurd (subst (BeginsNo Such) e ends (All-head Such u us each))
cut_once Such (x ∷ xs) ys [] vs each _ _ ends e =
    absurd (subst (BeginsNo Such) (sym e) ends (All-head Such x xs each))
cut_once Such (x ∷ xs) ys (u ∷ us) vs each each' ends ends' e =
    let heads : x ≡ u = cc in
    let tails : xs ++ ys ≡ us ++ vs = cc in
    let rest = cut_once Such xs ys us vs (All-tail Such x xs each) (All-tail Such u us each') ends ends' tails in
    let same : xs ≡ us = rest.0 in
    (cc, rest.1)

-- bytes begin with one line
pub line_once : (xs ys us vs : List ℕ) → HasNoEnd xs → HasNoEnd us → line xs ++ ys ≡ line us ++ vs → (xs ≡ us) × (ys ≡ vs)
line_once xs ys us vs free free' e =
    let cut = cut_once (λ b. b ≢ 10) xs (10 ∷ ys) us (10 ∷ vs) free free' (λ other. other refl) (λ other. other refl) (sym (append_assoc xs (10 ∷ []) ys) ∙ e ∙ append_assoc us (10 ∷ []) vs) in
    (cut.0, ap (drop 1) cut.1)

-- bytes with a line in front have an LF
pub line_has_end : (xs ys : List ℕ) → HasNoEnd (line xs ++ ys) → ⊥
line_has_end [] ys free = All-head (λ b. b ≢ 10) 10 ys free refl
line_has_end (x ∷ xs) ys free = line_has_end xs ys (All-tail (λ b. b ≢ 10) x (line xs ++ ys) free)

-- whether no byte is LF
abbrev pub ends_nowhere : List ℕ → Bool
ends_nowhere [] = true
ends_nowhere (x ∷ xs) = not (eqb x 10) && ends_nowhere xs

pub no_end_by_test : (xs : List ℕ) → ends_nowhere xs ≡ true → HasNoEnd xs
no_end_by_test [] _ = All-nil (λ b. b ≢ 10)
no_end_by_test (x ∷ xs) passes = by_first (no_end_by_test xs) (eqb x 10) refl passes
  where
    by_first : (ends_nowhere xs ≡ true → HasNoEnd xs) → (test : Bool) → eqb x 10 ≡ test → (not test && ends_nowhere xs) ≡ true → HasNoEnd (x ∷ xs)
    by_first others true is h = absurd (false≢true h)
    by_first others false is h = All-cons (λ b. b ≢ 10) x xs (λ same. false≢true (sym is ∙ eq-eqb x 10 same)) (others h)

same_bytes : (xs : List ℕ) → pointwise nat_eq xs xs ≡ true
same_bytes [] = refl
same_bytes (x ∷ xs) = rw (eq-eqb x x refl) (same_bytes xs)

-- bytes that begin with the front are the front and the rest
pub front_found : (bytes front rest : List ℕ) → pointwise nat_eq (take (length front) bytes) front ≡ true → rest ≡ drop (length front) bytes → bytes ≡ front ++ rest
front_found bytes front rest same is =
    let begins : take (length front) bytes ≡ front = same_text (take (length front) bytes) front (sym same) in
    sym (take-append-drop (length front) bytes) ∙ ap (λ xs. xs ++ drop (length front) bytes) begins ∙ ap (λ ys. front ++ ys) (sym is)

-- and others don't begin with it
pub front_missed : (bytes front : List ℕ) → pointwise nat_eq (take (length front) bytes) front ≡ false → (rest : List ℕ) → bytes ≢ front ++ rest
front_missed bytes front other rest is =
    let begins : take (length front) bytes ≡ front = ap (take (length front)) is ∙ take-append_seam front rest in
    false≢true (sym other ∙ ap (λ xs. pointwise nat_eq xs front) begins ∙ same_bytes front)

-- texts without an LF, one behind the other
pub free_append : (xs ys : List ℕ) → HasNoEnd xs → HasNoEnd ys → HasNoEnd (xs ++ ys)
free_append xs ys free free' = All-append (λ b. b ≢ 10) xs ys free free'
