-- Marks of packets and servers: which stay when one is set, and when more come behind them.
use Rattle.std.proofs.Common.{zero, suc, ◌≡◌, ◌≢◌, ℕ, ◌-◌, Bool, true, false, List, [], ◌∷◌, ◌++◌, refl, sym}
use Rattle.std.specs.Prelude.{slice_set, slice_index_or}
use Rattle.std.proofs.lemmas.Bool.{false≢true}
use Rattle.std.proofs.lemmas.List.{get_or-set_other}
use Rattle.kr_order.specs.Marks.{is_marked, marked}

-- who was marked stays marked
pub still_marked : (marks : List Bool) (k n : ℕ) → is_marked marks n ≡ true → is_marked (marked marks k) n ≡ true
still_marked marks k n is = by_place marks (k - 1) (n - 1) is
  where
    by_place : (marks : List Bool) (i j : ℕ) → slice_index_or marks j false ≡ true → slice_index_or (slice_set marks i true) j false ≡ true
    by_place [] i j is = is
    by_place (mark ∷ marks) zero zero is = refl
    by_place (mark ∷ marks) zero (suc j) is = is
    by_place (mark ∷ marks) (suc i) zero is = is
    by_place (mark ∷ marks) (suc i) (suc j) is = by_place marks i j is

-- and another is as before
pub other_mark : (marks : List Bool) (k n : ℕ) → k - 1 ≢ n - 1 → is_marked (marked marks k) n ≡ is_marked marks n
other_mark marks k n other = get_or-set_other marks (k - 1) (n - 1) true false (λ same. other (sym same))

-- a mark more at the end changes none of the others
pub more_marks : (marks : List Bool) (n : ℕ) → is_marked (marks ++ false ∷ []) n ≡ is_marked marks n
more_marks marks n = by_place marks (n - 1)
  where
    by_place : (marks : List Bool) (k : ℕ) → slice_index_or (marks ++ false ∷ []) k false ≡ slice_index_or marks k false
    by_place [] zero = refl
    by_place [] (suc k) = refl
    by_place (mark ∷ marks) zero = refl
    by_place (mark ∷ marks) (suc k) = by_place marks k

-- marks at the end change none of the others
pub marked_behind : (marks more : List Bool) (k : ℕ) → is_marked marks k ≡ true → is_marked (marks ++ more) k ≡ true
marked_behind marks more k is = by_place marks (k - 1) is
  where
    by_place : (marks : List Bool) (i : ℕ) → slice_index_or marks i false ≡ true → slice_index_or (marks ++ more) i false ≡ true
    by_place [] zero is = absurd (false≢true is)
    by_place [] (suc i) is = absurd (false≢true is)
    by_place (mark ∷ marks) zero is = is
    by_place (mark ∷ marks) (suc i) is = by_place marks i is
