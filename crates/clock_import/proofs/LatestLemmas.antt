-- The last line of a process before an index, and how many lines it has there.
use Rattle.std.proofs.Common.{◌≡◌, ℕ, zero, suc, ◌+◌, ◌<◌, ◌≤◌, Bool, true, false, cond, eqb, Option, Some, List, [], ◌∷◌, ◌++◌, length, take, refl, sym, ap, ◌∙◌, subst, ⊎_elim, arith}
use Rattle.std.specs.Prelude.{reverse}
use Rattle.std.proofs.lemmas.Bool.{eqb-true, eq-eqb, false≢true, cases_eq}
use Rattle.std.proofs.lemmas.List.{take_more, length-take-le, length-reverse, reverse-append}
use Rattle.std.proofs.lemmas.List.Sums.{count_by_more_yes, count_by_more_no}
use Rattle.clock_import.specs.declared.log.Act.TheVariants.{Bad}
use Rattle.clock_import.specs.declared.log.LogLine.{LogLine}
use Rattle.clock_import.specs.Log.{line_at}
use Rattle.clock_import.specs.Pairs.{latest, latest_before}
use Rattle.clock_import.specs.Links.{number_in}

-- one line on
pub latest_more : (lines : List LogLine) (i p : ℕ) → i < length lines → latest_before lines (i + 1) p ≡ cond (eqb (line_at lines i).process p) (Some i) (latest_before lines i p)
latest_more lines i p below =
    let front : take (i + 1) lines ≡ take i lines ++ line_at lines i ∷ [] = take_more lines i (record { process = 0; act = Bad }) below in
    let turned : reverse (take (i + 1) lines) ≡ line_at lines i ∷ reverse (take i lines) = ap reverse front ∙ reverse-append (take i lines) (line_at lines i ∷ []) in
    let many : length (reverse (take i lines)) ≡ i = length-reverse (take i lines) ∙ length-take-le i lines (omega arith) in
    ap (latest p) turned ∙ ap (λ n. cond (eqb (line_at lines i).process p) (Some n) (latest_before lines i p)) many

pub number_yes : (lines : List LogLine) (i p : ℕ) → i < length lines → (line_at lines i).process ≡ p → number_in lines p (i + 1) ≡ number_in lines p i + 1
number_yes lines i p below is =
    count_by_more_yes (λ (entry : LogLine). eqb entry.process p) lines i (record { process = 0; act = Bad }) below (eq-eqb (line_at lines i).process p is)

pub number_no : (lines : List LogLine) (i p : ℕ) → i < length lines → eqb (line_at lines i).process p ≡ false → number_in lines p (i + 1) ≡ number_in lines p i
number_no lines i p below other =
    count_by_more_no (λ (entry : LogLine). eqb entry.process p) lines i (record { process = 0; act = Bad }) below other

-- numbers only rise
pub number_rises : (lines : List LogLine) (p i j : ℕ) → i ≤ j → j ≤ length lines → number_in lines p i ≤ number_in lines p j
number_rises lines p i zero le within =
    let none : 0 ≡ i = omega arith in subst (λ k. number_in lines p k ≤ number_in lines p 0) none (omega arith)
number_rises lines p i (suc j) le within = ⊎_elim (λ (same : i ≡ suc j). subst (λ k. number_in lines p i ≤ number_in lines p k) same (omega arith)) (λ (other : i ≡ suc j → ⊥). by_test (eqb (line_at lines j).process p) refl (number_rises lines p i j (omega arith) (omega arith))) (cases_eq i (suc j))
  where
    next : number_in lines p (j + 1) ≡ number_in lines p (suc j)
    next = let one : j + 1 ≡ suc j = omega arith in ap (number_in lines p) one

    by_test : (b : Bool) → eqb (line_at lines j).process p ≡ b → number_in lines p i ≤ number_in lines p j → number_in lines p i ≤ number_in lines p (suc j)
    by_test true is before =
        let more = number_yes lines j p (omega arith) (eqb-true (line_at lines j).process p is) in omega (arith, next)
    by_test false is before =
        let same = number_no lines j p (omega arith) is in omega (arith, next)

-- the line that is found stands before the index, and is of the process
pub latest_some : (lines : List LogLine) (i p g : ℕ) → i ≤ length lines → latest_before lines i p ≡ Some g → (g < i) × ((line_at lines g).process ≡ p)
latest_some lines zero p g within is = absurd (cc)
latest_some lines (suc i) p g within is =
    let one : i + 1 ≡ suc i = omega arith in
    by_test (λ found. latest_some lines i p g (omega arith) found) (eqb (line_at lines i).process p) refl (sym (latest_more lines i p (omega arith)) ∙ ap (λ n. latest_before lines n p) one ∙ is)
  where
    by_test : (latest_before lines i p ≡ Some g → (g < i) × ((line_at lines g).process ≡ p)) → (b : Bool) → eqb (line_at lines i).process p ≡ b → cond b (Some i) (latest_before lines i p) ≡ Some g → (g < suc i) × ((line_at lines g).process ≡ p)
    by_test earlier true same is =
        let here : i ≡ g = cc in
        (omega arith, subst (λ k. (line_at lines k).process ≡ p) here (eqb-true (line_at lines i).process p same))
    by_test earlier false same is =
        let before = earlier is in
        let below = before.0 in
        (omega arith, before.1)

-- an earlier line of the process is that one, or stands before it
pub record Sees (lines : List LogLine) (i p f : ℕ) : Type 0 where
  pub last : ℕ
  pub is : latest_before lines i p ≡ Some last
  pub from : f ≤ last
  pub below : last < i
  pub process : (line_at lines last).process ≡ p

pub latest_sees : (lines : List LogLine) (i p f : ℕ) → i ≤ length lines → f < i → (line_at lines f).process ≡ p → Sees lines i p f
latest_sees lines zero p f within below is = absurd (omega arith)
latest_sees lines (suc i) p f within below is =
    by_test (λ earlier. latest_sees lines i p f (omega arith) earlier is) (eqb (line_at lines i).process p) refl
  where
    at_next : (value : Option ℕ) → cond (eqb (line_at lines i).process p) (Some i) (latest_before lines i p) ≡ value → latest_before lines (suc i) p ≡ value
    at_next value same = let one : suc i ≡ i + 1 = omega arith in ap (λ n. latest_before lines n p) one ∙ latest_more lines i p (omega arith) ∙ same

    by_test : (f < i → Sees lines i p f) → (b : Bool) → eqb (line_at lines i).process p ≡ b → Sees lines (suc i) p f
    by_test earlier true same =
        record {
          last = i;
          is = at_next (Some i) (ap (λ b. cond b (Some i) (latest_before lines i p)) same);
          from = omega arith;
          below = omega arith;
          process = eqb-true (line_at lines i).process p same;
        }
    by_test earlier false same =
        let apart : f ≡ i → ⊥ = λ here. false≢true (sym same ∙ eq-eqb (line_at lines i).process p (subst (λ k. (line_at lines k).process ≡ p) here is)) in
        let before = earlier (omega arith) in
        let low = before.below in
        record {
          last = before.last;
          is = at_next (Some before.last) (ap (λ b. cond b (Some i) (latest_before lines i p)) same ∙ before.is);
          from = before.from;
          below = omega arith;
          process = before.process;
        }
