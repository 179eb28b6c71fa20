-- An order in which each event stands behind those that lead to it leaves no cycle.
use Rattle.std.proofs.Common.{◌≡◌, ℕ, zero, suc, ◌+◌, ◌<◌, ◌≤◌, true, false, List, length, get_or, sym, ◌∙◌, subst, inl, inr, arith}
use Rattle.std.proofs.lemmas.Bool.{false_from_ne_true}
use Rattle.kr_order.specs.Order.{reach, IsAcyclic}
use Rattle.clock_import.specs.declared.log.LogLine.{LogLine}
use Rattle.clock_import.specs.declared.links.Link.{Link}
use Rattle.clock_import.specs.Pairs.{pairs_to}
use Rattle.clock_import.specs.Links.{AreLinks, LeadsTo, link_at}
use Rattle.clock_import.specs.Walk.{StandsBefore, IsInOrder, IsOrder, HasCycle}
use Rattle.clock_import.proofs.PairLemmas.{AreGood, IsLed, pairs_led, links_say}
use Rattle.clock_import.proofs.StepLemmas.{IsOrReaches, last_step}

-- an event before the j-th of the order stands above it
pub record StandsAbove (order : List ℕ) (j x : ℕ) : Type 0 where
  pub event : ℕ
  pub is : x ≡ event + 1
  pub there : StandsBefore order j event

above : (lines : List LogLine) (links : List Link) (many : ℕ) (order : List ℕ) → AreGood lines → AreLinks lines links → many ≤ length lines → IsInOrder links many order → (n j : ℕ) → j < n → j < length order → (x : ℕ) → reach (pairs_to lines many) x (get_or order j 0 + 1) ≡ true → StandsAbove order j x
above lines links many order good are le ordered zero j small below x path = absurd (omega arith)
above lines links many order good are le ordered (suc n) j small below x path =
    let last = last_step (IsLed lines many) (pairs_to lines many) x (get_or order j 0 + 1) (pairs_led lines good many le) path in
    by_last (λ i low path'. above lines links many order good are le ordered n i (omega arith) (omega arith) x path') last.via last.last last.to
  where
    by_way : ((i : ℕ) → i < j → reach (pairs_to lines many) x (get_or order i 0 + 1) ≡ true → StandsAbove order i x) → (via : ℕ) (via_event : ℕ) → via ≡ via_event + 1 → StandsBefore order j via_event → IsOrReaches (pairs_to lines many) x via → StandsAbove order j x
    by_way earlier_of via via_event is stands (inl same) = record { event = via_event; is = same ∙ is; there = stands }
    by_way earlier_of via via_event is stands (inr path) =
        let earlier = stands.1 in
        let at : get_or order stands.0 0 ≡ via_event = stands.2 in
        let on : via ≡ get_or order stands.0 0 + 1 = omega arith in
        let before = earlier_of stands.0 earlier (subst (λ y. reach (pairs_to lines many) x y ≡ true) on path) in
        let there = before.there in
        let low = there.1 in
        record { event = before.event; is = before.is; there = (there.0, omega arith, there.2) }

    by_last : ((i : ℕ) → i < j → reach (pairs_to lines many) x (get_or order i 0 + 1) ≡ true → StandsAbove order i x) → (via : ℕ) → IsLed lines many (via, get_or order j 0 + 1) → IsOrReaches (pairs_to lines many) x via → StandsAbove order j x
    by_last earlier_of via last to =
        let here : get_or order j 0 + 1 ≡ last.to + 1 = last.second in
        let same : last.to ≡ get_or order j 0 = omega arith in
        let from_below = last.from_below in
        let to_below = last.to_below in
        let leads : LeadsTo (link_at links (get_or order j 0)) last.from = subst (λ e. LeadsTo (link_at links e) last.from) same (subst (λ link. LeadsTo link last.from) (sym (are.each last.to (omega arith))) last.leads) in
        by_way earlier_of via last.from last.first (ordered.behind j below last.from from_below leads) to

no_turn : (lines : List LogLine) (links : List Link) (many : ℕ) (order : List ℕ) → AreGood lines → AreLinks lines links → many ≤ length lines → IsInOrder links many order → (n j : ℕ) → j < n → j < length order → reach (pairs_to lines many) (get_or order j 0 + 1) (get_or order j 0 + 1) ≡ true → ⊥
no_turn lines links many order good are le ordered zero j small below path = omega arith
no_turn lines links many order good are le ordered (suc n) j small below path =
    let up = above lines links many order good are le ordered (j + 1) j (omega arith) below (get_or order j 0 + 1) path in
    let stands = up.there in
    let earlier = stands.1 in
    let is = up.is in
    let at : get_or order stands.0 0 ≡ up.event = stands.2 in
    let same : get_or order j 0 + 1 ≡ get_or order stands.0 0 + 1 = omega arith in
    no_turn lines links many order good are le ordered n stands.0 (omega arith) (omega arith) (subst (λ y. reach (pairs_to lines many) y y ≡ true) same path)

-- where the first events have an order, their pairs have no cycle
pub order_acyclic : (lines : List LogLine) (links : List Link) (many : ℕ) (order : List ℕ) → AreGood lines → AreLinks lines links → many ≤ length lines → IsOrder links many order → IsAcyclic (pairs_to lines many)
order_acyclic lines links many order good are le ordered =
    record { no_cycle = λ event. false_from_ne_true (reach (pairs_to lines many) event event) (turns event) }
  where
    turns : (event : ℕ) → reach (pairs_to lines many) event event ≡ true → ⊥
    turns event path =
        let last = last_step (IsLed lines many) (pairs_to lines many) event event (pairs_led lines good many le) path in
        let led = last.last in
        let stands = ordered.all led.to led.to_below in
        let at : get_or order stands.0 0 ≡ led.to = stands.2 in
        let second = led.second in
        let same : event ≡ get_or order stands.0 0 + 1 = omega arith in
        no_turn lines links many order good are le ordered.ordered (stands.0 + 1) stands.0 (omega arith) stands.1 (subst (λ y. reach (pairs_to lines many) y y ≡ true) same path)

-- and where they lead to one another in a cycle, these have one
pub cycle_turns : (lines : List LogLine) (links : List Link) (many : ℕ) → AreGood lines → AreLinks lines links → many ≤ length lines → HasCycle links many → IsAcyclic (pairs_to lines many) → ⊥
cycle_turns lines links many good are le cycle acyclic =
    let turn = cycle.turns (pairs_to lines many) (links_say lines links many good are le) in
    let none : reach (pairs_to lines many) turn.0 turn.0 ≡ false = acyclic.no_cycle turn.0 in
    let some : reach (pairs_to lines many) turn.0 turn.0 ≡ true = turn.1 in
    absurd (cc)
