-- The marks of a search say which cells it has found.
use Rattle.std.proofs.Common.{◌≡◌, ◌⊎◌, ℕ, ◌+◌, ◌-◌, ◌<◌, ◌≤◌, true, false, eqb, List, [], ◌∷◌, ◌++◌, length, get_or, set, replicate, sym, ap, ◌∙◌, subst, inl, inr, arith, length-append}
use Rattle.std.specs.List.{All, IsDistinct}
use Rattle.std.proofs.Math.ListN.{length-set}
use Rattle.std.proofs.Math.Seq.{get_or-append_right}
use Rattle.std.proofs.lemmas.Bool.{cases_eq, cases_lt, eq-eqb, false_from_ne_true, ne_eqb}
use Rattle.std.proofs.lemmas.List.{get_or-set_other, get_or-set_same, get_or_append_left, get_or-replicate, length-replicate, length_push}
use Rattle.std.proofs.lemmas.List.Elements.{All-append, All-cons, All-nil, All-replicate}
use Rattle.std.proofs.lemmas.Map.Steps.{length-le_from_distinct_below}
use Rattle.reach.specs.Finds.{is_in, IsMarked}
use Rattle.reach.proofs.MemberLemmas.{is_in-push_same, is_in-push_other, is_in-all, IsDistinct-push}

-- no mark has a greater number, and there is room for a cell with each mark
pub record AreEarlier (marks : List ℕ) (number capacity : ℕ) : Type 0 where
  pub each : All (λ mark. mark ≤ number) marks
  pub room : length marks ≤ capacity

-- marks that say nothing
pub AreEarlier-none : (marks old : List ℕ) (number : ℕ) (cells : List ℕ) (capacity n : ℕ) → n ≡ length old → marks ≡ replicate n 0 → IsMarked old number cells capacity → AreEarlier marks 0 capacity
AreEarlier-none marks old number cells capacity n size none was =
    subst (λ ms. AreEarlier ms 0 capacity) (sym none) (record {
      each = All-replicate (λ mark. mark ≤ 0) n 0 (omega arith);
      room = omega (arith, length-replicate {A = ℕ} n 0, was.room);
    })

-- no mark has the next search's number
pub IsMarked-next : (marks : List ℕ) (number capacity : ℕ) → AreEarlier marks number capacity → IsMarked marks (number + 1) [] capacity
unfolding IsDistinct
IsMarked-next marks number capacity was =
    record {
      marked = λ cell below. sym (ne_eqb (get_or marks cell 0) (number + 1) (λ same. absurd (omega (arith, was.each cell 0 below))));
      below = All-nil (λ cell. cell < length marks);
      distinct = tt;
      earlier = λ k d below. omega (arith, was.each k d below);
      numbered = omega arith;
      room = was.room;
    }

-- more cells, which no search has found
pub IsMarked-fit : (marks : List ℕ) (number : ℕ) (cells : List ℕ) (old new more : ℕ) → IsMarked marks number cells old → length marks + more ≤ new → IsMarked (marks ++ replicate more 0) number cells new
IsMarked-fit marks number cells old new more was room =
    let size : length (marks ++ replicate more 0) ≡ length marks + more = length-append marks (replicate more 0) ∙ ap (λ n. length marks + n) (length-replicate more 0) in
    record {
      marked = λ cell below. by_place cell (omega (arith, size)) (cases_lt cell (length marks));
      below = λ k d in_cells. omega (arith, size, was.below k d in_cells);
      distinct = was.distinct;
      earlier = All-append (λ mark. mark ≤ number) marks (replicate more 0) was.earlier (All-replicate (λ mark. mark ≤ number) more 0 (omega arith));
      numbered = was.numbered;
      room = omega (arith, size);
    }
  where
    out : (cell : ℕ) → length marks ≤ cell → is_in cells cell ≡ false
    out cell above = false_from_ne_true (is_in cells cell) (λ there. absurd (omega (arith, is_in-all cells cell (λ c. c < length marks) was.below there)))

    by_place : (cell : ℕ) → cell < length marks + more → (cell < length marks) ⊎ (length marks ≤ cell) → is_in cells cell ≡ eqb (get_or (marks ++ replicate more 0) cell 0) number
    by_place cell below (inl here) = was.marked cell here ∙ ap (λ mark. eqb mark number) (sym (get_or_append_left marks (replicate more 0) 0 cell here))
    by_place cell below (inr behind) =
        let zero_mark : get_or (marks ++ replicate more 0) cell 0 ≡ 0 = get_or-append_right marks (replicate more 0) cell 0 behind ∙ get_or-replicate more (cell - length marks) 0 0 (omega arith) in
        out cell behind ∙ sym (ne_eqb (get_or (marks ++ replicate more 0) cell 0) number (λ same. absurd (omega (arith, zero_mark, was.numbered))))

-- one cell more
pub IsMarked-push : (marks : List ℕ) (number : ℕ) (cells : List ℕ) (capacity cell : ℕ) → IsMarked marks number cells capacity → cell < length marks → is_in cells cell ≡ false → IsMarked (set marks cell number) number (cells ++ cell ∷ []) capacity
IsMarked-push marks number cells capacity cell was in_marks new =
    let size : length (set marks cell number) ≡ length marks = length-set marks cell number in
    record {
      marked = λ c in_range. by_cell c (omega (arith, size)) (cases_eq c cell);
      below = λ k d in_cells. omega (arith, size, below k d in_cells);
      distinct = IsDistinct-push cells cell was.distinct new;
      earlier = λ k d below. by_index k d (omega (arith, size)) (cases_eq k cell);
      numbered = was.numbered;
      room = omega (arith, size, was.room);
    }
  where
    below : All (λ c. c < length marks) (cells ++ cell ∷ [])
    below = All-append (λ c. c < length marks) cells (cell ∷ []) was.below (All-cons (λ c. c < length marks) cell [] in_marks (All-nil (λ c. c < length marks)))

    by_cell : (c : ℕ) → c < length marks → (c ≡ cell) ⊎ (c ≡ cell → ⊥) → is_in (cells ++ cell ∷ []) c ≡ eqb (get_or (set marks cell number) c 0) number
    by_cell c in_range (inl same) =
        let there : is_in (cells ++ cell ∷ []) c ≡ true = subst (λ x. is_in (cells ++ cell ∷ []) x ≡ true) (sym same) (is_in-push_same cells cell) in
        let mark : get_or (set marks cell number) c 0 ≡ number = subst (λ x. get_or (set marks cell number) x 0 ≡ number) (sym same) (get_or-set_same marks cell number 0 in_marks) in
        there ∙ sym (eq-eqb (get_or (set marks cell number) c 0) number mark)
    by_cell c in_range (inr other) =
        is_in-push_other cells cell c other ∙ was.marked c in_range ∙ ap (λ mark. eqb mark number) (sym (get_or-set_other marks cell c number 0 other))

    by_index : (k d : ℕ) → k < length marks → (k ≡ cell) ⊎ (k ≡ cell → ⊥) → get_or (set marks cell number) k d ≤ number
    by_index k d in_range (inl same) = omega (arith, subst (λ i. get_or (set marks cell number) i d ≡ number) (sym same) (get_or-set_same marks cell number d in_marks))
    by_index k d in_range (inr other) = omega (arith, get_or-set_other marks cell k number d other, was.earlier k d in_range)

-- there is room for a cell that was not found
pub has_room : (marks : List ℕ) (number : ℕ) (cells : List ℕ) (capacity cell : ℕ) → IsMarked marks number cells capacity → cell < length marks → is_in cells cell ≡ false → length cells < capacity
has_room marks number cells capacity cell was in_marks new =
    let more = cells ++ cell ∷ [] in
    let below : All (λ c. c < length marks) more = All-append (λ c. c < length marks) cells (cell ∷ []) was.below (All-cons (λ c. c < length marks) cell [] in_marks (All-nil (λ c. c < length marks))) in
    let few : length more ≤ length marks = length-le_from_distinct_below more (length marks) (IsDistinct-push cells cell was.distinct new) (λ c there. is_in-all more c (λ x. x < length marks) below there) in
    omega (arith, few, length_push cells cell, was.room)

-- at most as many cells were found as there is room for
pub are_few : (marks : List ℕ) (number : ℕ) (cells : List ℕ) (capacity : ℕ) → IsMarked marks number cells capacity → length cells ≤ length marks
are_few marks number cells capacity was = length-le_from_distinct_below cells (length marks) was.distinct (λ c there. is_in-all cells c (λ x. x < length marks) was.below there)
