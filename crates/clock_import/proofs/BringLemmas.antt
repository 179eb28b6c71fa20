-- What is told of a log: that it has no cycle, or where its first one closes.
use Rattle.std.proofs.Common.{◌≡◌, ℕ, zero, suc, ◌+◌, ◌≤◌, List, length, refl, sym, ◌∙◌, subst, ⊎_elim, arith}
use Rattle.std.proofs.lemmas.Bool.{false_from_ne_true, false≢true, cases_eq}
use Rattle.kr_order.specs.Prefix.{IsPrefix}
use Rattle.kr_order.specs.Order.{reach, IsAcyclic}
use Rattle.kr_order.proofs.PrefixLemmas.{IsPrefix-refl, IsPrefix-append, IsPrefix-trans}
use Rattle.kr_order.proofs.OrderLemmas.{reach_more}
use Rattle.clock_import.specs.declared.log.LogLine.{LogLine}
use Rattle.clock_import.specs.declared.links.Link.{Link}
use Rattle.clock_import.specs.declared.imported.Imported.{Imported}
use Rattle.clock_import.specs.Log.{IsLog}
use Rattle.clock_import.specs.Pairs.{event_pairs, pairs_to, pairs_of_log, numbered}
use Rattle.clock_import.specs.Links.{AreLinks}
use Rattle.clock_import.specs.Walk.{IsOrder, Closing}
use Rattle.clock_import.specs.Clocks.{clocks_of_log}
use Rattle.clock_import.specs.Imported.{IsBrought, IsClosed}
use Rattle.clock_import.proofs.PairLemmas.{AreGood}
use Rattle.clock_import.proofs.OrderLemmas.{order_acyclic, cycle_turns}

-- the pairs of fewer events come first
pub IsPrefix-pairs_to : (lines : List LogLine) (m n : ℕ) → m ≤ n → IsPrefix (pairs_to lines m) (pairs_to lines n)
IsPrefix-pairs_to lines m zero le =
    let same : m ≡ zero = omega arith in
    subst (λ k. IsPrefix (pairs_to lines k) (pairs_to lines zero)) (sym same) (IsPrefix-refl (pairs_to lines zero))
IsPrefix-pairs_to lines m (suc n) le =
    ⊎_elim
    (λ (same : m ≡ suc n). subst (λ k. IsPrefix (pairs_to lines k) (pairs_to lines (suc n))) (sym same) (IsPrefix-refl (pairs_to lines (suc n))))
    (λ (other : m ≡ suc n → ⊥). IsPrefix-trans (pairs_to lines m) (pairs_to lines n) (pairs_to lines (suc n)) (IsPrefix-pairs_to lines m n (omega arith)) (IsPrefix-append (pairs_to lines n) (event_pairs lines n)))
    (cases_eq m (suc n))

-- and have no cycle where more have none
pub acyclic_fewer : (lines : List LogLine) (m n : ℕ) → m ≤ n → IsAcyclic (pairs_to lines n) → IsAcyclic (pairs_to lines m)
acyclic_fewer lines m n le acyclic =
    record { no_cycle = λ event. false_from_ne_true (reach (pairs_to lines m) event event) (λ turn. false≢true (sym (acyclic.no_cycle event) ∙ reach_more (pairs_to lines m) (pairs_to lines n) event event (IsPrefix-pairs_to lines m n le) turn)) }

good_log : (processes : ℕ) (lines : List LogLine) → IsLog processes lines → AreGood lines
good_log processes lines log = record { good = log.good }

-- a log that could be put in order
pub brought : (lines : List LogLine) (links : List Link) (order : List ℕ) (imported : Imported) → IsLog imported.processes lines → AreLinks lines links → IsOrder links (length lines) order → imported.events ≡ clocks_of_log imported.processes lines → numbered imported.pairs ≡ pairs_of_log lines → IsBrought imported.processes lines imported
brought lines links order imported log are ordered events pairs =
    record {
      processes_are = refl;
      tells = record { fit = log; acyclic = order_acyclic lines links (length lines) order (good_log imported.processes lines log) are (omega arith) ordered; events = events; pairs = pairs };
    }

-- and one that could not
pub closed : (processes : ℕ) (lines : List LogLine) (links : List Link) (event : ℕ) → IsLog processes lines → AreLinks lines links → Closing links event → event ≤ length lines → IsClosed lines (event + 1)
closed processes lines links event log are closing le =
    let good = good_log processes lines log in
    let number = closing.number in
    let acyclic = order_acyclic lines links closing.fewer closing.order good are (omega arith) closing.ordered in
    record {
      event = event;
      number = refl;
      cycle = record {
        within = le;
        closes = cycle_turns lines links event good are le closing.cycle;
        earlier = λ m low. acyclic_fewer lines m closing.fewer (omega arith) acyclic;
      };
    }

-- the same of what the parts of the code answer
pub brought_at : (whole lines : List LogLine) (links : List Link) (order : List ℕ) (imported : Imported) → lines ≡ whole → IsLog imported.processes whole → AreLinks lines links → IsOrder links (length lines) order → imported.events ≡ clocks_of_log imported.processes lines → numbered imported.pairs ≡ pairs_of_log lines → IsBrought imported.processes whole imported
brought_at whole lines links order imported same log are ordered events pairs =
    subst (λ l. IsBrought imported.processes l imported) same (brought lines links order imported (subst (IsLog imported.processes) (sym same) log) are ordered events pairs)

pub closed_at : (processes : ℕ) (whole lines : List LogLine) (links : List Link) (event : ℕ) → lines ≡ whole → IsLog processes whole → AreLinks lines links → Closing links event → event ≤ length lines → IsClosed whole (event + 1)
closed_at processes whole lines links event same log are closing le =
    subst (λ l. IsClosed l (event + 1)) same (closed processes lines links event (subst (IsLog processes) (sym same) log) are closing le)
