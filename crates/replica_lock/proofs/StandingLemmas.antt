-- What seats may know, after a change of one of them or of the history.
use Rattle.std.proofs.Common.{◌≡◌, ◌≢◌, ℕ, zero, suc, ◌*◌, ◌^◌, ◌<◌, ◌≤◌, List, [], ◌∷◌, ◌++◌, length, set, Option, None, Some, IfSome, refl, sym, subst, ⊎_elim, arith}
use mathlib.Core.Option.{some, some-ne-none}
use lib.ListN.{get_elem?}
use Rattle.atomic_table.proofs.Lists.{at_set, at_snoc}
use Rattle.replica_lock.specs.declared.seat.TheConstants.{MOST_SEATS, MOST_GIVES}
use Rattle.replica_lock.specs.declared.standing.Standing.{Standing}
use Rattle.replica_lock.specs.Rule.{IsStanding, AreStanding, all_parts, all_gives}
use Rattle.replica_lock.proofs.TotalLemmas.{sum_by-le-times}

-- a fact for the value that is there, if one is
pub IfSome-each : {A : Type 0} (o : Option A) (P : A → Type 0) → ((a : A) → o ≡ Some a → P a) → IfSome o P
IfSome-each None P each = tt
IfSome-each (Some a) P each = each a refl

module _ {A : Type 0} where
  -- what is found lies within the list
  pub at_within : (l : List A) (i : ℕ) (a : A) → get_elem? l i ≡ some a → i < length l
  at_within [] i a at = absurd (some-ne-none a (sym at))
  at_within (x ∷ xs) zero a at = omega arith
  at_within (x ∷ xs) (suc i) a at = let within = at_within xs i a at in omega arith

  -- what holds of all items holds after a change of one, where it holds of that one
  pub all_set : (P : ℕ → A → Type 0) (l : List A) (id : ℕ) (w : A)
      → ((i : ℕ) (a : A) → get_elem? l i ≡ some a → i ≢ id → P i a) → P id w
      → (i : ℕ) (a : A) → get_elem? (set l id w) i ≡ some a → P i a
  all_set P l id w others mine i a at =
      ⊎_elim
      (λ (here : (i ≡ id) × (w ≡ a)). subst (λ (x : ℕ × A). P x.0 x.1) (λ k. (sym here.0 k, here.1 k)) mine)
      (λ (there : (i ≢ id) × (get_elem? l i ≡ some a)). others i a there.1 there.0)
      (at_set l id i w a at)

  -- and with one item more, where it holds of that one anywhere
  pub all_push : (P : ℕ → A → Type 0) (l : List A) (w : A)
      → ((i : ℕ) (a : A) → get_elem? l i ≡ some a → P i a) → ((i : ℕ) → P i w)
      → (i : ℕ) (a : A) → get_elem? (l ++ w ∷ []) i ≡ some a → P i a
  all_push P l w others new i a at =
      ⊎_elim
      (λ (was : get_elem? l i ≡ some a). others i a was)
      (λ (is : w ≡ a). subst (P i) is (new i))
      (at_snoc l w a i at)

module _ {N : Type 0} (name : N) where
  -- of a longer history no less may be known
  pub IsStanding-longer : (history longer : ℕ) (v : Standing N) → history ≤ longer → IsStanding history name v
      → IsStanding longer name v
  IsStanding-longer history longer v more is = record {
    few = is.few;
    named = is.named;
    seen = omega (arith, is.seen);
    spent = is.spent;
  }

  -- all entries together are few
  pub all_gives-small : (history : ℕ) (views : List (Standing N)) → AreStanding history name views
      → all_parts views ≤ MOST_SEATS → all_gives views < 2 ^ 58
  all_gives-small history views each few =
      let most : all_gives views ≤ MOST_GIVES * all_parts views =
      sum_by-le-times (λ (v : Standing N). v.parts) (λ (v : Standing N). v.gives) MOST_GIVES views (λ seat v at. (each seat v at).few)
      in omega (arith, most, few)
