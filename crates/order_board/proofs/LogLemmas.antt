-- The log behind the copies: its beginnings, and the step that adds an entry.
use Rattle.std.proofs.Common.{◌≡◌, ◌≢◌, ℕ, ◌<◌, ◌≤◌, ◌==◌, Bool, true, false, List, [], ◌∷◌, ◌++◌, length, None}
use Rattle.std.proofs.Common.{refl, ap, sym, subst, arith, inl, length-append}
use Rattle.std.proofs.lemmas.List.{append-nil}
use Rattle.std.proofs.lemmas.Bool.Decides.{nat_tests}
use mathlib.Core.List.{IsPrefix as Begins}
use lib.Dec.{leb}
use Rattle.std.specs.Prelude.{MatchBool}
use Rattle.logbook.specs.Pages.{Cell, cell, keeps}
use Rattle.kr_order.specs.Prefix.{IsPrefix}
use Rattle.kr_order.specs.declared.history.Entry.{Entry}
use Rattle.kr_order.proofs.PrefixLemmas.{shorter_front}
use Rattle.order_board.specs.Log.{AddsIn, Adds, exchanged}

-- the log's word for a beginning is the repository's
pub IsPrefix-begins : {X : Type 0} (xs ys : List X) → Begins xs ys → IsPrefix xs ys
IsPrefix-begins xs ys p = record { more = p.0; is = sym p.1 }

-- of two beginnings of one list the one that is no longer begins the other
pub begins_longer : {X : Type 0} (xs ys zs : List X) → Begins xs zs → Begins ys zs → length xs ≤ length ys → IsPrefix xs ys
begins_longer xs ys zs p q le = shorter_front xs ys zs (IsPrefix-begins xs zs p) (IsPrefix-begins ys zs q) le

-- a beginning as long as the whole is the whole
pub front_whole : {X : Type 0} (xs ys : List X) → Begins xs ys → length ys ≡ length xs → xs ≡ ys
front_whole [] [] p same = refl
front_whole [] (y ∷ ys) p same = absurd (omega arith)
front_whole (x ∷ xs) [] p same = absurd (omega arith)
front_whole (x ∷ xs) (y ∷ ys) p same = let rest = front_whole xs ys (p.0, cc (p.1)) (omega arith) in cc (p.1, rest)

grows_goes : (log v : List Entry) (e : Entry) (old : ℕ) → length v ≡ old → Begins v log
    → (b : Bool) → (length log == old) ≡ b
    → AddsIn v e old ((length log, true) ∷ (0, true) ∷ []) log
grows_goes log v e old len pre true is =
    let here : length log ≡ old = grind (arith, nat_tests) in
    let same : v ≡ log = front_whole v log pre (omega arith) in
    let n : exchanged v e old (length log) ≡ length (log ++ e ∷ []) = rw is (omega (arith, length-append log (e ∷ []))) in (
      keeps,
      e ∷ [],
      None,
      tt,
      ap (λ (k : ℕ). (k, true) ∷ (0, true) ∷ []) n,
      inl (refl, refl),
      λ found. ap (λ w. w ++ e ∷ []) (sym same),
    )
grows_goes log v e old len pre false is =
    let n : exchanged v e old (length log) ≡ length (log ++ []) = rw is (ap length (sym (append-nil log))) in
    let other : length log ≢ old = grind (arith, nat_tests) in (
      keeps,
      [],
      None,
      tt,
      ap (λ (k : ℕ). (k, true) ∷ (0, true) ∷ []) n,
      inl (refl, refl),
      λ found. absurd (other found),
    )

-- whatever the log is, the exchange adds the entry to what had been seen, or finds that the log is longer
pub grows_moves : (v : List Entry) (e : Entry) (old : ℕ) → length v ≡ old
    → Adds v e old
grows_moves v e old len cs log kept pre away =
    let P : List Cell → Type 0 = λ c. (0 < length c) × ((cell c 0).1 ≡ true) × AddsIn v e old c log in
    subst P (sym kept) (omega arith, refl, grows_goes log v e old len pre (length log == old) refl)

-- of two beginnings of one list the test of their lengths says which begins the other
pub begins_test : {X : Type 0} (xs ys zs : List X) (m n : ℕ) → m ≡ length xs → n ≡ length ys → Begins xs zs → Begins ys zs
    → (b : Bool) → leb m n ≡ b → MatchBool b (IsPrefix xs ys) (IsPrefix ys xs)
begins_test xs ys zs m n same also p q true le = begins_longer xs ys zs p q (grind (arith, nat_tests))
begins_test xs ys zs m n same also p q false le = begins_longer ys xs zs q p (grind (arith, nat_tests))
