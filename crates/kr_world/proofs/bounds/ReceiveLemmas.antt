-- What a log takes of entries that come.
use Rattle.std.proofs.Common.{◌≡◌, ℕ, ◌+◌, ◌-◌, ◌≤◌, Bool, true, false, cond, leb, List, [], ◌++◌, length, take, drop, refl, sym, ap, ◌∙◌, subst, arith, inl, inr}
use Rattle.std.proofs.lemmas.Bool.{cases_lt, leb-true}
use Rattle.std.proofs.lemmas.List.{append-nil, length-drop, drop-take, drop-drop, drop_all}
use Rattle.std.proofs.Math.Seq.{take-add}
use Rattle.kr_order.specs.declared.history.Entry.{Entry}
use Rattle.kr_order.specs.Prefix.{IsPrefix}
use Rattle.kr_order.proofs.PrefixLemmas.{IsPrefix-take, take_front}
use Rattle.kr_protocol.specs.Server.{missing}

-- what a log lacks of entries of another log that it is a front of, put behind it
received :
    (xs ys es : List Entry) (first : ℕ)
    → IsPrefix xs ys
    → 1 ≤ first
    → es ≡ take (length es) (drop (first - 1) ys)
    → first ≤ length xs + 1
    → IsPrefix (xs ++ drop (length xs + 1 - first) es) ys
received xs ys es first front low stand near =
    let n = length xs in
    let k = n + 1 - first in
    let m = length es in
    elim (cases_lt m k) [
      | inl short ↦
          let none : drop k es ≡ [] = drop_all k es (omega arith) in
          subst (λ l. IsPrefix l ys) (sym (ap (λ l. xs ++ l) none ∙ append-nil xs)) front
      | inr long ↦
          let rest : List Entry = drop (first - 1) ys in
          let from : drop k rest ≡ drop n ys = drop-drop k (first - 1) ys ∙ ap (λ i. drop i ys) (omega arith) in
          let cut : drop k es ≡ take (m - k) (drop n ys) =
          ap (drop k) (stand ∙ ap (λ i. take i rest) (omega arith)) ∙ drop-take k (m - k) rest ∙ ap (take (m - k)) from in
          let whole : xs ++ drop k es ≡ take (n + (m - k)) ys =
          ap (λ l. l ++ drop k es) (sym (take_front xs ys front)) ∙ ap (λ l. take n ys ++ l) cut ∙ sym (take-add n (m - k) ys) in
          subst (λ l. IsPrefix l ys) (sym whole) (IsPrefix-take (n + (m - k)) ys)
    ]

pub receives :
    (xs ys es : List Entry) (first : ℕ)
    → IsPrefix xs ys
    → 1 ≤ first
    → es ≡ take (length es) (drop (first - 1) ys)
    → IsPrefix (xs ++ missing xs first es) ys
receives xs ys es first front low stand = by_test (leb first (length xs + 1)) refl
  where
    by_test : (near : Bool) → leb first (length xs + 1) ≡ near → IsPrefix (xs ++ missing xs first es) ys
    by_test true is = rw is (received xs ys es first front low stand (leb-true first (length xs + 1) is))
    by_test false is = rw is (subst (λ l. IsPrefix l ys) (sym (append-nil xs)) front)

-- no more is appended than came
pub missing_few : (xs es : List Entry) (first : ℕ) → length (missing xs first es) ≤ length es
missing_few xs es first = by_test (leb first (length xs + 1))
  where
    by_test : (near : Bool) → length (cond near (drop (length xs + 1 - first) es) []) ≤ length es
    by_test true = omega (arith, length-drop (length xs + 1 - first) es)
    by_test false = omega arith
