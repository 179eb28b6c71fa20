-- The clock of an event is made of those of the events that lead to it.
use Rattle.std.proofs.Common.{◌≡◌, ◌⊎◌, ℕ, zero, suc, ◌+◌, ◌-◌, ◌<◌, ◌≤◌, min, max, Bool, true, false, cond, eqb, ◌&&◌, Option, None, Some, List, [], length, get_or, refl, sym, ap, ◌∙◌, subst, inl, inr, ⊎_elim, arith}
use Rattle.std.specs.Prelude.{map, count_by, sum_by}
use Rattle.std.specs.List.{range_with_len}
use Rattle.std.proofs.lemmas.Bool.{eqb-true, eq-eqb, false≢true, or_cases, or_left, or_right, cases_eq, cases_lt}
use Rattle.std.proofs.lemmas.List.FromFn.{length-map-range_with_len, get_or-map-range_with_len, sum_by-map-range_with_len_more}
use Rattle.std.proofs.lemmas.List.{ext_get_or, get_or_past}
use Rattle.std.proofs.lemmas.List.Sums.{sum-map}
use Rattle.kr_order.specs.Order.{reach}
use Rattle.kr_order.proofs.OrderLemmas.{reach-trans}
use Rattle.clock_import.specs.declared.log.LogLine.{LogLine}
use Rattle.clock_import.specs.declared.links.Link.{Link}
use Rattle.clock_import.specs.declared.imported.Clocked.{Clocked}
use Rattle.clock_import.specs.Log.{IsLog, line_at}
use Rattle.clock_import.specs.Pairs.{pairs_of_log}
use Rattle.clock_import.specs.Links.{number_in, link_of, LeadsTo}
use Rattle.clock_import.specs.Clocks.{knows, component, clock_of}
use Rattle.clock_import.specs.Joins.{part_in, part_of, joined_at, clock_at, join_at, clock_of_event}
use Rattle.clock_import.proofs.LatestLemmas.{number_yes, number_no, number_rises, Sees, latest_sees}
use Rattle.clock_import.proofs.PairLemmas.{AreGood, IsLed, pairs_led, leads_said}
use Rattle.clock_import.proofs.StepLemmas.{IsOrReaches, last_step}

-- the event at e is the one at f, or behind it
abbrev pub Knows : List LogLine → ℕ → ℕ → Type 0
Knows lines e f = (f ≡ e) ⊎ (reach (pairs_of_log lines) (f + 1) (e + 1) ≡ true)

pub knows_is : (lines : List LogLine) (e f : ℕ) → knows (pairs_of_log lines) e f ≡ true → Knows lines e f
knows_is lines e f is =
    ⊎_elim (λ (same : eqb f e ≡ true). inl (eqb-true f e same)) (λ (path : reach (pairs_of_log lines) (f + 1) (e + 1) ≡ true). inr path) (or_cases (eqb f e) (reach (pairs_of_log lines) (f + 1) (e + 1)) is)

pub knows_holds : (lines : List LogLine) (e f : ℕ) → Knows lines e f → knows (pairs_of_log lines) e f ≡ true
knows_holds lines e f (inl same) = or_left (eqb f e) (reach (pairs_of_log lines) (f + 1) (e + 1)) (eq-eqb f e same)
knows_holds lines e f (inr path) = or_right (eqb f e) (reach (pairs_of_log lines) (f + 1) (e + 1)) path

pub knows_trans : (lines : List LogLine) (e a f : ℕ) → Knows lines e a → Knows lines a f → Knows lines e f
knows_trans lines e a f (inl same) known = subst (λ k. Knows lines k f) same known
knows_trans lines e a f (inr path) (inl same) =
    inr (subst (λ k. reach (pairs_of_log lines) (k + 1) (e + 1) ≡ true) (sym same) path)
knows_trans lines e a f (inr path) (inr before) =
    inr (reach-trans (pairs_of_log lines) (f + 1) (a + 1) (e + 1) before path)

pub knows_lead : (lines : List LogLine) (e a : ℕ) → AreGood lines → e < length lines → a < length lines → LeadsTo (link_of lines e) a → Knows lines e a
knows_lead lines e a good below below' leads =
    inr (leads_said lines (length lines) e a good (omega arith) below below' leads)

-- an event knows those before it of its process
pub knows_own : (lines : List LogLine) (n e f : ℕ) → AreGood lines → e < n → e < length lines → f ≤ e → (line_at lines f).process ≡ (line_at lines e).process → Knows lines e f
knows_own lines zero e f good small below le same = absurd (omega arith)
knows_own lines (suc n) e f good small below le same = ⊎_elim (λ (here : f ≡ e). inl here) (λ (other : f ≡ e → ⊥). by_sees (λ last low from is. knows_own lines n last f good (omega arith) (omega arith) from is) (latest_sees lines e (line_at lines e).process f (omega arith) (omega arith) same)) (cases_eq f e)
  where
    by_sees : ((last : ℕ) → last < e → f ≤ last → (line_at lines f).process ≡ (line_at lines last).process → Knows lines last f) → Sees lines e (line_at lines e).process f → Knows lines e f
    by_sees earlier sees =
        let low = sees.below in
        let from = sees.from in
        knows_trans lines e sees.last f (knows_lead lines e sees.last good below (omega arith) (inl sees.is)) (earlier sees.last low from (same ∙ sym sees.process))

-- what an event knows: itself, and what those know that lead to it
pub record KnowsBy (lines : List LogLine) (e f : ℕ) : Type 0 where
  pub by : ℕ
  pub below : by < length lines
  pub leads : LeadsTo (link_of lines e) by
  pub known : Knows lines by f

pub knows_by : (lines : List LogLine) (e f : ℕ) → AreGood lines → Knows lines e f → (f ≡ e) ⊎ KnowsBy lines e f
knows_by lines e f good (inl same) = inl same
knows_by lines e f good (inr path) =
    let last = last_step (IsLed lines (length lines)) (pairs_of_log lines) (f + 1) (e + 1) (pairs_led lines good (length lines) (omega arith)) path in
    let led = last.last in
    let second = led.second in
    let first = led.first in
    let here : led.to ≡ e = omega arith in
    inr (record {
      by = led.from;
      below = led.from_below;
      leads = subst (λ k. LeadsTo (link_of lines k) led.from) here led.leads;
      known = as_known led.from last.via first last.to;
    })
  where
    as_known : (by via : ℕ) → via ≡ by + 1 → IsOrReaches (pairs_of_log lines) (f + 1) via → Knows lines by f
    as_known by via is (inl same) = inl (omega arith)
    as_known by via is (inr path) = inr (subst (λ y. reach (pairs_of_log lines) (f + 1) y ≡ true) is path)

-- the clock tells what the event knows: of each process the first so many events
pub record IsClock (processes : ℕ) (lines : List LogLine) (e : ℕ) (part : ℕ → ℕ) : Type 0 where
  pub known : (f : ℕ) → f < length lines → Knows lines e f → number_in lines (line_at lines f).process (f + 1) ≤ part (line_at lines f).process
  pub told : (f : ℕ) → f < length lines → number_in lines (line_at lines f).process (f + 1) ≤ part (line_at lines f).process → Knows lines e f
  pub most : (p : ℕ) → 1 ≤ p → p ≤ processes → part p ≤ number_in lines p (length lines)

-- one item more of a range is counted
pub count_more : (t : ℕ → Bool) (n : ℕ) → count_by t (range_with_len 0 (n + 1)) ≡ count_by t (range_with_len 0 n) + cond (t n) 1 0
count_more t n =
    sum_is t (n + 1) ∙ sum_by-map-range_with_len_more (λ (k : ℕ). k) (λ f. cond (t f) 1 0) 0 n n (omega arith) ∙ ap (λ k. k + cond (t n) 1 0) (sym (sum_is t n))
  where
    sum_is : (t : ℕ → Bool) (n : ℕ) → count_by t (range_with_len 0 n) ≡ sum_by (λ (k : ℕ). k) (map (λ f. cond (t f) 1 0) (range_with_len 0 n))
    sum_is t n = sym (sum-map (λ f. cond (t f) 1 0) (range_with_len 0 n))

-- as many events of the process are known as its number in the clock says
count_known : (processes : ℕ) (lines : List LogLine) (e p : ℕ) (part : ℕ → ℕ) → IsClock processes lines e part → (n : ℕ) → n ≤ length lines → count_by (λ f. eqb (line_at lines f).process p && knows (pairs_of_log lines) e f) (range_with_len 0 n) ≡ min (part p) (number_in lines p n)
count_known processes lines e p part is zero le = omega arith
count_known processes lines e p part is (suc n) le =
    let before = count_known processes lines e p part is n (omega arith) in
    let one : suc n ≡ n + 1 = omega arith in
    ap (λ k. count_by (λ f. eqb (line_at lines f).process p && knows (pairs_of_log lines) e f) (range_with_len 0 k)) one ∙ count_more (λ f. eqb (line_at lines f).process p && knows (pairs_of_log lines) e f) n ∙ ap (λ k. k + cond (eqb (line_at lines n).process p && knows (pairs_of_log lines) e n) 1 0) before ∙ by_process (eqb (line_at lines n).process p) refl ∙ ap (λ k. min (part p) (number_in lines p k)) (sym one)
  where
    by_known : (b : Bool) → knows (pairs_of_log lines) e n ≡ b → (line_at lines n).process ≡ p → min (part p) (number_in lines p n) + cond b 1 0 ≡ min (part p) (number_in lines p (n + 1))
    by_known true known same =
        let more = number_yes lines n p (omega arith) same in
        let low : number_in lines p (n + 1) ≤ part p = subst (λ q. number_in lines q (n + 1) ≤ part q) same (is.known n (omega arith) (knows_is lines e n known)) in
        omega arith
    by_known false known same =
        let more = number_yes lines n p (omega arith) same in
        let high : number_in lines p (n + 1) ≤ part p → ⊥ = λ low. false≢true (sym known ∙ knows_holds lines e n (is.told n (omega arith) (subst (λ q. number_in lines q (n + 1) ≤ part q) (sym same) low))) in
        ⊎_elim (λ (small : part p < number_in lines p (n + 1)). omega arith) (λ (large : number_in lines p (n + 1) ≤ part p). absurd (high large)) (cases_lt (part p) (number_in lines p (n + 1)))

    by_process : (b : Bool) → eqb (line_at lines n).process p ≡ b → min (part p) (number_in lines p n) + cond (b && knows (pairs_of_log lines) e n) 1 0 ≡ min (part p) (number_in lines p (n + 1))
    by_process true same = by_known (knows (pairs_of_log lines) e n) refl (eqb-true (line_at lines n).process p same)
    by_process false same =
        let stays = number_no lines n p (omega arith) same in omega arith

-- the number in the clock is the count
pub component_is : (processes : ℕ) (lines : List LogLine) (e p : ℕ) (part : ℕ → ℕ) → IsClock processes lines e part → 1 ≤ p → p ≤ processes → part p ≡ component lines e p
component_is processes lines e p part is low high =
    let counted = count_known processes lines e p part is (length lines) (omega arith) in
    let most = is.most p low high in
    let least : min (part p) (number_in lines p (length lines)) ≡ part p = omega arith in
    sym (counted ∙ least)

-- a clock made of those of the two events that may lead to e, which are right
abbrev pub IsRight : ℕ → List LogLine → List Clocked → ℕ → Type 0
IsRight processes lines events e = IsClock processes lines e (λ p. part_in (clock_at events e) p)

-- the number that an event that may be there tells of a process
part_known : (processes : ℕ) (lines : List LogLine) (events : List Clocked) (a f : ℕ) (event : Option ℕ) → event ≡ Some a → IsRight processes lines events a → f < length lines → Knows lines a f → number_in lines (line_at lines f).process (f + 1) ≤ part_of events event (line_at lines f).process
part_known processes lines events a f event is right below known =
    subst (λ o. number_in lines (line_at lines f).process (f + 1) ≤ part_of events o (line_at lines f).process) (sym is) (right.known f below known)

-- events that lead to e are right
abbrev pub AreRight : ℕ → List LogLine → List Clocked → Link → Type 0
AreRight processes lines events link = (a : ℕ) → LeadsTo link a → (a < length lines) × IsRight processes lines events a

part_told : (processes : ℕ) (lines : List LogLine) (events : List Clocked) (e f : ℕ) (event : Option ℕ) → ((a : ℕ) → event ≡ Some a → Knows lines e a × IsRight processes lines events a) → f < length lines → number_in lines (line_at lines f).process (f + 1) ≤ part_of events event (line_at lines f).process → 1 ≤ number_in lines (line_at lines f).process (f + 1) → Knows lines e f
part_told processes lines events e f None right below low some = absurd (omega arith)
part_told processes lines events e f (Some a) right below low some =
    let leads = right a refl in
    knows_trans lines e a f leads.0 (leads.1.told f below low)

part_most : (processes : ℕ) (lines : List LogLine) (events : List Clocked) (p : ℕ) (event : Option ℕ) → ((a : ℕ) → event ≡ Some a → IsRight processes lines events a) → 1 ≤ p → p ≤ processes → part_of events event p ≤ number_in lines p (length lines)
part_most processes lines events p None right low high = omega arith
part_most processes lines events p (Some a) right low high = (right a refl).most p low high

-- an event is one of its process
number_some : (lines : List LogLine) (f p : ℕ) → f < length lines → (line_at lines f).process ≡ p → 1 ≤ number_in lines p (f + 1)
number_some lines f p below same = let one = number_yes lines f p below same in omega arith

-- of two events of a process the earlier has the smaller number
number_orders : (lines : List LogLine) (e f p : ℕ) → e < length lines → f < length lines → (line_at lines f).process ≡ p → number_in lines p (f + 1) ≤ number_in lines p (e + 1) → f ≤ e
number_orders lines e f p below below' same le =
    ⊎_elim
    (λ (later : e < f).
    let one = number_yes lines f p below' same in
    let rises = number_rises lines p (e + 1) f (omega arith) (omega arith) in
    absurd (omega arith))
    (λ (earlier : f ≤ e). earlier)
    (cases_lt e f)

-- the number of the process in the joined clock is the greatest of those that lead to it, and of its own
joined_low : (process : ℕ) (link : Link) (events : List Clocked) (p : ℕ) → max (part_of events link.prior p) (part_of events link.source p) ≤ joined_at process link events p
joined_low process link events p =
    elim (eqb p process) as (λ b. max (part_of events link.prior p) (part_of events link.source p) ≤ cond b (max (max (part_of events link.prior p) (part_of events link.source p)) link.number) (max (part_of events link.prior p) (part_of events link.source p))) [ true ↦ omega arith | false ↦ omega arith ]

joined_own : (process : ℕ) (link : Link) (events : List Clocked) (p : ℕ) → p ≡ process → link.number ≤ joined_at process link events p
joined_own process link events p same =
    subst (λ b. link.number ≤ cond b (max (max (part_of events link.prior p) (part_of events link.source p)) link.number) (max (part_of events link.prior p) (part_of events link.source p))) (sym (eq-eqb p process same)) (omega arith)

-- it is one of them
joined_cases : (process : ℕ) (link : Link) (events : List Clocked) (p n : ℕ) → n ≤ joined_at process link events p → ((n ≤ part_of events link.prior p) ⊎ (n ≤ part_of events link.source p)) ⊎ ((p ≡ process) × (n ≤ link.number))
joined_cases process link events p n le = by_test (eqb p process) refl le
  where
    of_two : n ≤ max (part_of events link.prior p) (part_of events link.source p) → (n ≤ part_of events link.prior p) ⊎ (n ≤ part_of events link.source p)
    of_two le =
        ⊎_elim (λ (small : part_of events link.prior p < n). inr (omega arith)) (λ (large : n ≤ part_of events link.prior p). inl large) (cases_lt (part_of events link.prior p) n)

    by_test : (b : Bool) → eqb p process ≡ b → n ≤ cond b (max (max (part_of events link.prior p) (part_of events link.source p)) link.number) (max (part_of events link.prior p) (part_of events link.source p)) → ((n ≤ part_of events link.prior p) ⊎ (n ≤ part_of events link.source p)) ⊎ ((p ≡ process) × (n ≤ link.number))
    by_test true same le =
        ⊎_elim (λ (small : link.number < n). inl (of_two (omega arith))) (λ (large : n ≤ link.number). inr (eqb-true p process same, large)) (cases_lt link.number n)
    by_test false other le = inl (of_two le)

known_self : (lines : List LogLine) (events : List Clocked) (e f : ℕ) → f ≡ e → number_in lines (line_at lines f).process (f + 1) ≤ joined_at (line_at lines e).process (link_of lines e) events (line_at lines f).process
known_self lines events e f same =
    subst (λ k. number_in lines (line_at lines k).process (k + 1) ≤ joined_at (line_at lines e).process (link_of lines e) events (line_at lines k).process) (sym same) (joined_own (line_at lines e).process (link_of lines e) events (line_at lines e).process refl)

known_lead : (processes : ℕ) (lines : List LogLine) (events : List Clocked) (e f a : ℕ) → f < length lines → LeadsTo (link_of lines e) a → IsRight processes lines events a → Knows lines a f → number_in lines (line_at lines f).process (f + 1) ≤ joined_at (line_at lines e).process (link_of lines e) events (line_at lines f).process
known_lead processes lines events e f a below (inl prior) right known =
    let part = part_known processes lines events a f (link_of lines e).prior prior right below known in
    let low = joined_low (line_at lines e).process (link_of lines e) events (line_at lines f).process in
    omega arith
known_lead processes lines events e f a below (inr source) right known =
    let part = part_known processes lines events a f (link_of lines e).source source right below known in
    let low = joined_low (line_at lines e).process (link_of lines e) events (line_at lines f).process in
    omega arith

told_own : (lines : List LogLine) (e f : ℕ) → AreGood lines → e < length lines → f < length lines → (line_at lines f).process ≡ (line_at lines e).process → number_in lines (line_at lines f).process (f + 1) ≤ number_in lines (line_at lines e).process (e + 1) → Knows lines e f
told_own lines e f good below below' same le =
    let before = number_orders lines e f (line_at lines f).process below below' refl (subst (λ p. number_in lines (line_at lines f).process (f + 1) ≤ number_in lines p (e + 1)) (sym same) le) in
    knows_own lines (e + 1) e f good (omega arith) below before same

-- so it tells what the event knows
pub joined_right : (processes : ℕ) (lines : List LogLine) (events : List Clocked) (e : ℕ) → IsLog processes lines → e < length lines → AreRight processes lines events (link_of lines e) → IsClock processes lines e (joined_at (line_at lines e).process (link_of lines e) events)
joined_right processes lines events e log below right =
    let good : AreGood lines = record { good = log.good } in
    record {
      known = λ f below' known. by_known f below' (knows_by lines e f good known);
      told = λ f below' low. by_told good f below' (joined_cases (line_at lines e).process (link_of lines e) events (line_at lines f).process (number_in lines (line_at lines f).process (f + 1)) low);
      most = λ p low high. by_most p low high (joined_cases (line_at lines e).process (link_of lines e) events p (joined_at (line_at lines e).process (link_of lines e) events p) (omega arith));
    }
  where
    by_known : (f : ℕ) → f < length lines → (f ≡ e) ⊎ KnowsBy lines e f → number_in lines (line_at lines f).process (f + 1) ≤ joined_at (line_at lines e).process (link_of lines e) events (line_at lines f).process
    by_known f below' (inl same) = known_self lines events e f same
    by_known f below' (inr by) =
        known_lead processes lines events e f by.by below' by.leads (right by.by by.leads).1 by.known

    leads_known : AreGood lines → (a : ℕ) → LeadsTo (link_of lines e) a → Knows lines e a × IsRight processes lines events a
    leads_known good a leads =
        let of = right a leads in (knows_lead lines e a good below of.0 leads, of.1)

    by_told : AreGood lines → (f : ℕ) → f < length lines → ((number_in lines (line_at lines f).process (f + 1) ≤ part_of events (link_of lines e).prior (line_at lines f).process) ⊎ (number_in lines (line_at lines f).process (f + 1) ≤ part_of events (link_of lines e).source (line_at lines f).process)) ⊎ (((line_at lines f).process ≡ (line_at lines e).process) × (number_in lines (line_at lines f).process (f + 1) ≤ (link_of lines e).number)) → Knows lines e f
    by_told good f below' (inl (inl low)) =
        part_told processes lines events e f (link_of lines e).prior (λ a is. leads_known good a (inl is)) below' low (number_some lines f (line_at lines f).process below' refl)
    by_told good f below' (inl (inr low)) =
        part_told processes lines events e f (link_of lines e).source (λ a is. leads_known good a (inr is)) below' low (number_some lines f (line_at lines f).process below' refl)
    by_told good f below' (inr own) = told_own lines e f good below below' own.0 own.1

    by_most : (p : ℕ) → 1 ≤ p → p ≤ processes → ((joined_at (line_at lines e).process (link_of lines e) events p ≤ part_of events (link_of lines e).prior p) ⊎ (joined_at (line_at lines e).process (link_of lines e) events p ≤ part_of events (link_of lines e).source p)) ⊎ ((p ≡ (line_at lines e).process) × (joined_at (line_at lines e).process (link_of lines e) events p ≤ (link_of lines e).number)) → joined_at (line_at lines e).process (link_of lines e) events p ≤ number_in lines p (length lines)
    by_most p low high (inl (inl le)) =
        let part = part_most processes lines events p (link_of lines e).prior (λ a is. (right a (inl is)).1) low high in omega arith
    by_most p low high (inl (inr le)) =
        let part = part_most processes lines events p (link_of lines e).source (λ a is. (right a (inr is)).1) low high in omega arith
    by_most p low high (inr own) =
        let rises = number_rises lines p (e + 1) (length lines) (omega arith) (omega arith) in
        let le : joined_at (line_at lines e).process (link_of lines e) events p ≤ number_in lines p (e + 1) = subst (λ q. joined_at (line_at lines e).process (link_of lines e) events p ≤ number_in lines q (e + 1)) (sym own.0) own.1 in
        omega arith

-- clocks that tell what their events know are those of the definition
pub clock_is : (processes : ℕ) (lines : List LogLine) (e : ℕ) (clock : List ℕ) → length clock ≡ processes → IsClock processes lines e (λ p. part_in clock p) → clock ≡ clock_of processes lines e
clock_is processes lines e clock wide is =
    ext_get_or 0 clock (clock_of processes lines e) (wide ∙ sym (length-map-range_with_len (component lines e) 1 processes)) (λ i below. let within : i < processes = omega arith in let turn : (i + 1) - 1 ≡ i = omega arith in let at = component_is processes lines e (i + 1) (λ p. part_in clock p) is (omega arith) (omega arith) in ap (λ k. get_or clock k 0) (sym turn) ∙ at ∙ sym (get_or-map-range_with_len (component lines e) 1 processes i (i + 1) 0 within (omega arith)))

-- an event whose clock is not made yet
abbrev pub bare : LogLine → Clocked
bare entry = record { process = entry.process; clock = [] }

-- the events of the first places of the order have their clocks
pub record AreClocked (processes : ℕ) (lines : List LogLine) (order : List ℕ) (n : ℕ) (events : List Clocked) : Type 0 where
  pub many : length events ≡ length lines
  pub processes_are : (e : ℕ) → e < length lines → (get_or events e (record { process = 0; clock = [] })).process ≡ (line_at lines e).process
  pub right : (j : ℕ) → j < n → (length (clock_at events (get_or order j 0)) ≡ processes) × IsRight processes lines events (get_or order j 0)

-- a number in a clock is the same, however the clock is found
pub part_in-event : (events : List Clocked) (event : Option ℕ) (p : ℕ) → part_in (clock_of_event events event) p ≡ part_of events event p
part_in-event events None p = get_or_past [] (p - 1) 0 (omega arith)
part_in-event events (Some e) p = refl

join_at-link : (process : ℕ) (link : Link) (events : List Clocked) (p : ℕ) →
    join_at process link.number (clock_of_event events link.prior) (clock_of_event events link.source) p ≡ joined_at process link events p
join_at-link process link events p =
    ap (λ n. let most = max n (part_in (clock_of_event events link.source) p) in cond (eqb p process) (max most link.number) most)
    (part_in-event events link.prior p)
    ∙ ap (λ n. let most = max (part_of events link.prior p) n in cond (eqb p process) (max most link.number) most)
    (part_in-event events link.source p)

-- the same of clocks that were found
pub join_at-found : (process : ℕ) (link : Link) (events : List Clocked) (prior source : List ℕ) (p number : ℕ) →
    prior ≡ clock_of_event events link.prior → source ≡ clock_of_event events link.source →
    number ≡ join_at process link.number prior source p → number ≡ joined_at process link events p
join_at-found process link events prior source p number one other is =
    is ∙ ap (λ c. join_at process link.number c source p) one
    ∙ ap (λ c. join_at process link.number (clock_of_event events link.prior) c p) other ∙ join_at-link process link events p
