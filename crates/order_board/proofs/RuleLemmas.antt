-- Each kind of step keeps the rule of the two copies.
use Rattle.std.proofs.Common.{◌≡◌, ◌≢◌, ℕ, List, [], ◌∷◌, ◌++◌, refl, sym, ap, ◌∙◌, subst, Option, None, Some, set, ⊎_elim}
use mathlib.Core.Option.{some}
use lib.ListN.{get_elem?}
use Rattle.crossbeam_utils.specs.Register.{Admits, TurnsAt, Turns, Forks, Merges}
use Rattle.atomic_table.proofs.Lists.{at_set, at_snoc}
use Rattle.kr_order.specs.Prefix.{IsPrefix}
use Rattle.kr_order.proofs.PrefixLemmas.{IsPrefix-refl, IsPrefix-trans, IsPrefix-append}
use Rattle.kr_order.specs.declared.history.Entry.{Entry}
use Rattle.order_board.specs.declared.copies.OrderCopy.{OrderCopy}
use Rattle.order_board.specs.declared.copies.Growth.{Growth}
use Rattle.order_board.specs.Copies.{IsNext}
use Rattle.order_board.specs.Rule.{Front, Fits, IsBoard, Shows, GoesOn}

-- what was seen in a copy is seen in one that goes on from it
fits_on : (old new : OrderCopy) (sight : Option Front) → GoesOn old new → Fits old sight → Fits new sight
fits_on old new None on fits = tt
fits_on old new (Some front) on fits =
    record { copies = fits.copies ∙ sym on.copies; list = IsPrefix-trans _ _ _ fits.list on.list }

-- what a copy names is seen in it
fits_self : (copy : OrderCopy) → copy.seen.log ≡ copy.state.history → Fits copy (Some copy.seen)
fits_self copy log =
    record { copies = refl; list = subst (λ l. IsPrefix copy.seen.log l) log (IsPrefix-refl copy.seen.log) }

-- one seat comes to know what is seen in the copy
sets_each : (copy : OrderCopy) (sights : List (Option Front)) (seat : ℕ) (sight : Option Front)
    → ((seat : ℕ) (sight : Option Front) → get_elem? sights seat ≡ some sight → Fits copy sight) → Fits copy sight
    → (other : ℕ) (seen : Option Front) → get_elem? (set sights seat sight) other ≡ some seen → Fits copy seen
sets_each copy sights seat sight each fits other seen at =
    ⊎_elim (λ (t : (other ≡ seat) × (sight ≡ seen)). subst (Fits copy) t.1 fits)
    (λ (t : (other ≢ seat) × (get_elem? sights other ≡ some seen)). each other seen t.1)
    (at_set sights seat other sight seen at)

sets : (copy : OrderCopy) (sights : List (Option Front)) (seat : ℕ) (sight : Option Front) → IsBoard copy sights → Fits copy sight
    → IsBoard copy (set sights seat sight)
sets copy sights seat sight is fits = record { log = is.log; each = sets_each copy sights seat sight is.each fits }

-- one seat more knows what is seen in the copy
adds : (copy : OrderCopy) (sights : List (Option Front)) (sight : Option Front) → IsBoard copy sights → Fits copy sight
    → IsBoard copy (sights ++ sight ∷ [])
adds copy sights sight is fits = record {
  log = is.log;
  each = λ seat seen at.
      ⊎_elim (λ (there : get_elem? sights seat ≡ some seen). is.each seat seen there)
      (λ (same : sight ≡ seen). subst (Fits copy) same fits)
      (at_snoc sights sight seen seat at);
}

-- the first copy, before anyone has seen it
pub opens : (copy : OrderCopy) → copy.seen.log ≡ copy.state.history → IsBoard copy (None ∷ [])
opens copy log = adds copy [] None (record { log = log; each = λ seat seen at. absurd cc }) tt

-- a reader may come that has seen nothing
pub admits : Admits IsBoard None
admits copy sights is = adds copy sights None is tt

-- a copy may be published, or entered, that goes on from the one that was
pub shows : (seat : ℕ) (sight : Option Front) (old new : OrderCopy) → GoesOn old new → TurnsAt IsBoard seat sight old new Shows
shows seat sight old new on sights is at = (
  Some new.seen,
  record {
    log = on.log;
    each = sets_each new sights seat (Some new.seen)
        (λ other seen there. fits_on old new seen on (is.each other seen there)) (fits_self new on.log);
  },
  record { sight = refl; log = on.log; fits = fits_on old new sight on (is.each seat sight at) },
)

-- the published copy may be entered
pub enters : (seat : ℕ) (sight : Option Front) → Turns IsBoard seat sight (λ copy. copy) Shows
enters seat sight copy sights is =
    shows seat sight copy copy (record { log = is.log; copies = refl; list = IsPrefix-refl copy.state.history }) sights is

-- what a seat saw may be told
pub tells : (seat : ℕ) (sight : Option Front) → Forks IsBoard seat sight sight sight
tells seat sight copy sights is at =
    adds copy (set sights seat sight) sight (sets copy sights seat sight is (is.each seat sight at)) (is.each seat sight at)

-- what was told may be learnt
pub learns : (seat : ℕ) (sight : Option Front) (other : ℕ) (told : Option Front) → Merges IsBoard seat sight other told told None
learns seat sight other told copy sights is at apart there =
    let fits : Fits copy told =
    ⊎_elim (λ (t : (other ≡ seat) × (told ≡ told)). absurd (apart t.0))
    (λ (t : (other ≢ seat) × (get_elem? sights other ≡ some told)). is.each other told t.1)
    (at_set sights seat other told told there) in
    sets copy (set sights seat told) other None (sets copy sights seat told is fits) tt

-- a copy into which nothing was put goes on from the one that was
pub goes_on_same : (old new : OrderCopy) → ◌≡◌ {A = List Entry × Front} (new.state.history, new.seen) (old.state.history, old.seen)
    → old.seen.log ≡ old.state.history → GoesOn old new
goes_on_same old new is log =
    let list : new.state.history ≡ old.state.history = ap (λ (p : List Entry × Front). p.0) is in record {
      log = ap (λ (p : List Entry × Front). p.1.log) is ∙ log ∙ sym list;
      copies = ap (λ (p : List Entry × Front). p.1.book) is;
      list = subst (λ l. IsPrefix old.state.history l) (sym list) (IsPrefix-refl old.state.history);
    }

-- a copy into which the next entry was put goes on from the one that was
pub goes_on_next : (old new : OrderCopy) (growth : Growth)
    → ◌≡◌ {A = List Entry × Front} (new.state.history, new.seen) (old.state.history ++ growth.entry ∷ [], growth.seen)
    → IsNext old growth → GoesOn old new
goes_on_next old new growth is next =
    let list : new.state.history ≡ old.state.history ++ growth.entry ∷ [] = ap (λ (p : List Entry × Front). p.0) is in record {
      log = ap (λ (p : List Entry × Front). p.1.log) is ∙ next.log ∙ sym list;
      copies = ap (λ (p : List Entry × Front). p.1.book) is ∙ next.copies;
      list = subst (λ l. IsPrefix old.state.history l) (sym list) (IsPrefix-append old.state.history (growth.entry ∷ []));
    }
