-- What is held of the order: it has all paths that begin at a held event, and what is not held never is again.
use Rattle.std.proofs.Common.{◌≡◌, ◌⊎◌, ℕ, zero, suc, ◌+◌, ◌-◌, ◌<◌, ◌≤◌, Bool, true, false, cond, not, ◌&&◌, ◌||◌, eqb, ltb, List, [], ◌∷◌, ◌++◌, refl, sym, ap, ◌∙◌, subst, inl, inr, arith, append_assoc}
use Rattle.std.specs.Prelude.{◌↔◌, fold, filter, reverse, is_none}
use Rattle.std.specs.List.{AllByRecursion, list_any}
use Rattle.std.proofs.lemmas.Bool.{and_from, and_parts, both_ways, eq-eqb, eqb-true, eqb-false, false_from_ne_true, lt-ltb, ltb-true, not-false, or_cases, or_left, or_right}
use Rattle.std.proofs.lemmas.List.{append-nil, reverse-append}
use Rattle.std.proofs.lemmas.List.Elements.{filter-append}
use Rattle.std.proofs.lemmas.List.Folds.{list_any-append}
use Rattle.std.proofs.lemmas.Iterator.Adapters.{position_from-zero}
use Rattle.kr_order.specs.declared.batch.Pair.{Pair}
use Rattle.kr_order.specs.declared.history.Command.{Command}
use Rattle.kr_order.specs.declared.history.Command.TheVariants.{Create, Assign, Acquire, Release}
use Rattle.kr_order.specs.declared.history.Entry.{Entry}
use Rattle.kr_order.specs.History.{born_in}
use Rattle.kr_order.specs.Numbers.{numbers_to}
use Rattle.kr_order.specs.Prefix.{IsPrefix}
use Rattle.kr_order.specs.References.{IsLive}
use Rattle.kr_order.specs.Order.{reach}
use Rattle.kr_order.specs.Batch.{is_must, forbids, with_pair, with_must, with_prefer, musts_from, pairs_with, contradicts}
use Rattle.kr_order.specs.Agreed.{Agreed, is_live, both_live, first_unknown, accepts, count_after, pairs_after, after, agreed_of}
use Rattle.kr_order.specs.Pairs.{pairs_of}
use Rattle.kr_order.specs.Held.{holds, is_held_in, is_held, held_pairs}
use Rattle.kr_order.specs.Laws.{CollectedEventsAreIdle}
use Rattle.kr_order.proofs.PrefixLemmas.{IsPrefix-append}
use Rattle.kr_order.proofs.PathLemmas.{leads, leads_cases, leads_old, leads_own}
use Rattle.kr_order.proofs.RoundLemmas.{AllByRecursion-reverse, reach-leads}
use Rattle.kr_order.proofs.OrderLemmas.{reach-path, reach-from_path, reach-push, reach-trans}
use Rattle.kr_order.proofs.HistoryLemmas.{IsUpTo, agreed_of-push, born-agreed, born_in_grows}
use Rattle.kr_order.proofs.BornLemmas.{IsBornPair, IsBornOrder, IsOverBorn, no_position, over_born}
use Rattle.kr_order.proofs.PairsLemmas.{none_by_test}

-- the first item comes last backwards
reverse-cons : {X : Type 0} (x : X) (xs : List X) → reverse (x ∷ xs) ≡ reverse xs ++ x ∷ []
reverse-cons x xs = reverse-append (x ∷ []) xs

-- what passes a test is the same backwards as forwards
filter-reverse : {X : Type 0} (test : X → Bool) (xs : List X) → filter test (reverse xs) ≡ reverse (filter test xs)
filter-reverse test [] = refl
filter-reverse test (x ∷ xs) =
    ap (filter test) (reverse-cons x xs) ∙ filter-append test (reverse xs) (x ∷ []) ∙ ap (λ front. front ++ filter test (x ∷ [])) (filter-reverse test xs) ∙ by_test (test x)
  where
    by_test : (passes : Bool) → (reverse (filter test xs) ++ cond passes (x ∷ []) []) ≡ reverse (cond passes (x ∷ filter test xs) (filter test xs))
    by_test true = sym (reverse-cons x (filter test xs))
    by_test false = append-nil (reverse (filter test xs))

-- the events that pass the test have behind them only such
record IsClosed (test : ℕ → Bool) (newest : List (ℕ × ℕ)) : Type 0 where
  on : (x y : ℕ) → test x ≡ true → leads newest x y ≡ true → test y ≡ true

-- a pair to which nothing leads adds no path
or_idle : (path here there on : Bool) → here ≡ false → there ≡ false → path ≡ (path || ((here || there) && on))
or_idle true here there on _ _ = refl
or_idle false true there on here _ = cc
or_idle false false true on _ there = cc
or_idle false false false on _ _ = refl

-- a path from an event that passes the test goes over pairs whose first event does
leads_filtered : (test : ℕ → Bool) (newest : List (ℕ × ℕ)) → IsClosed test newest → (a b : ℕ) → test a ≡ true → leads (filter (λ pair. test pair.0) newest) a b ≡ leads newest a b
leads_filtered test [] closed a b passes = refl
leads_filtered test (pair ∷ older) closed a b passes = by_test (test pair.0) refl (leads_filtered test older inner)
  where
    inner : IsClosed test older
    inner = record { on = λ x y is path. closed.on x y is (leads_old pair older x y path) }

    by_test : (keeps : Bool) → test pair.0 ≡ keeps → ((x y : ℕ) → test x ≡ true → leads (filter (λ p. test p.0) older) x y ≡ leads older x y) → leads (cond keeps (pair ∷ filter (λ p. test p.0) older) (filter (λ p. test p.0) older)) a b ≡ leads (pair ∷ older) a b
    by_test true is same =
        let past = same a b passes in
        let to = same a pair.0 passes in
        let on = same pair.1 b (closed.on pair.0 pair.1 is (leads_own pair older)) in
        ap (λ t. t || ((eqb a pair.0 || leads (filter (λ p. test p.0) older) a pair.0) && (eqb pair.1 b || leads (filter (λ p. test p.0) older) pair.1 b))) past ∙ ap (λ t. leads older a b || ((eqb a pair.0 || t) && (eqb pair.1 b || leads (filter (λ p. test p.0) older) pair.1 b))) to ∙ ap (λ t. leads older a b || ((eqb a pair.0 || leads older a pair.0) && (eqb pair.1 b || t))) on
    by_test false is same =
        let here : eqb a pair.0 ≡ false = false_from_ne_true (eqb a pair.0) (λ eq. both_ways (test pair.0) is (subst (λ v. test v ≡ true) (eqb-true a pair.0 eq) passes)) in
        let there : leads older a pair.0 ≡ false = false_from_ne_true (leads older a pair.0) (λ path. both_ways (test pair.0) is (closed.on a pair.0 passes (leads_old pair older a pair.0 path))) in
        same a b passes ∙ or_idle (leads older a b) (eqb a pair.0) (leads older a pair.0) (eqb pair.1 b || leads older pair.1 b) here there

-- where all that is behind an event that passes the test passes it too, the pairs whose first event does have all
-- paths from such an event
pub reach_filtered : (test : ℕ → Bool) (pairs : List (ℕ × ℕ)) → ((x y : ℕ) → test x ≡ true → reach pairs x y ≡ true → test y ≡ true) → (a b : ℕ) → test a ≡ true → reach (filter (λ pair. test pair.0) pairs) a b ≡ reach pairs a b
reach_filtered test pairs closed a b passes =
    let behind : IsClosed test (reverse pairs) = record { on = λ x y is path. closed x y is (reach-from_path pairs x y path) } in
    let kept : List (ℕ × ℕ) = filter (λ pair. test pair.0) pairs in
    reach-leads kept a b ∙ ap (λ newest. leads newest a b) (sym (filter-reverse (λ (pair : ℕ × ℕ). test pair.0) pairs)) ∙ leads_filtered test (reverse pairs) behind a b passes ∙ sym (reach-leads pairs a b)

-- a test on numbers from 1 on: where one passes, and the other way round
record IsPassedTo (test : ℕ → Bool) (n : ℕ) : Type 0 where
  number : ℕ
  up : IsUpTo number n
  passes : test number ≡ true

any_to-number : (test : ℕ → Bool) (n : ℕ) → list_any test (numbers_to n) ≡ true → IsPassedTo test n
any_to-number test zero any = cc
any_to-number test (suc n) any =
    elim (or_cases (list_any test (numbers_to n)) (list_any test ((n + 1) ∷ [])) (sym (list_any-append test (numbers_to n) ((n + 1) ∷ [])) ∙ any)) [
      | inl old ↦ let was = any_to-number test n old in record { number = was.number; up = (was.up.0, omega (arith, was.up.1)); passes = was.passes }
      | inr new ↦ record { number = n + 1; up = (omega arith, omega arith); passes = elim (or_cases (test (n + 1)) false new) [ inl is ↦ is | inr other ↦ cc ] }
    ]

any_to-passed : (test : ℕ → Bool) (n number : ℕ) → IsUpTo number n → test number ≡ true → list_any test (numbers_to n) ≡ true
any_to-passed test zero number up passes = absurd (omega (arith, up.0, up.1))
any_to-passed test (suc n) number up passes = list_any-append test (numbers_to n) ((n + 1) ∷ []) ∙ by_test (eqb number (n + 1)) refl (any_to-passed test n number)
  where
    by_test : (last : Bool) → eqb number (n + 1) ≡ last → (IsUpTo number n → test number ≡ true → list_any test (numbers_to n) ≡ true) → (list_any test (numbers_to n) || list_any test ((n + 1) ∷ [])) ≡ true
    by_test true is on =
        or_right (list_any test (numbers_to n)) (list_any test ((n + 1) ∷ [])) (or_left (test (n + 1)) false (subst (λ v. test v ≡ true) (eqb-true number (n + 1) is) passes))
    by_test false is on =
        let other = eqb-false number (n + 1) is in
        or_left (list_any test (numbers_to n)) (list_any test ((n + 1) ∷ [])) (on (up.0, omega (arith, other, up.1)) passes)

-- a live event is the event, or is before it
pub record IsHeldBy (agreed : Agreed) (event : ℕ) : Type 0 where
  pub root : ℕ
  pub live : 0 < agreed.count root
  pub holds : (root ≡ event) ⊎ (reach agreed.pairs root event ≡ true)

-- an event is held where some live event holds it
pub is_held_in-true : (agreed : Agreed) (event : ℕ) → IsOverBorn agreed → (is_held_in agreed event ≡ true) ↔ IsHeldBy agreed event
is_held_in-true agreed event over = (λ is. there (any_to-number (holds agreed event) agreed.born is), back)
  where
    there : IsPassedTo (holds agreed event) agreed.born → IsHeldBy agreed event
    there some =
        let both = and_parts (is_live agreed some.number) (eqb some.number event || reach agreed.pairs some.number event) some.passes in
        record {
          root = some.number;
          live = ltb-true 0 (agreed.count some.number) both.0;
          holds = elim (or_cases (eqb some.number event) (reach agreed.pairs some.number event) both.1) [ inl same ↦ inl (eqb-true some.number event same) | inr path ↦ inr path ];
        }

    is_or_before : (root : ℕ) → (root ≡ event) ⊎ (reach agreed.pairs root event ≡ true) → (eqb root event || reach agreed.pairs root event) ≡ true
    is_or_before root (inl same) = or_left (eqb root event) (reach agreed.pairs root event) (eq-eqb root event same)
    is_or_before root (inr path) = or_right (eqb root event) (reach agreed.pairs root event) path

    back : IsHeldBy agreed event → is_held_in agreed event ≡ true
    back held =
        any_to-passed (holds agreed event) agreed.born held.root (over.live held.root held.live) (and_from (is_live agreed held.root) (eqb held.root event || reach agreed.pairs held.root event) (lt-ltb 0 (agreed.count held.root) held.live) (is_or_before held.root held.holds))

pub is_held-true : (history : List Entry) (event : ℕ) → (is_held history event ≡ true) ↔ IsHeldBy (agreed_of history) event
is_held-true history event = is_held_in-true (agreed_of history) event (over_born history)

-- a live event is held
pub is_held-live : (history : List Entry) (event : ℕ) → IsLive history event → is_held history event ≡ true
is_held-live history event live = (is_held-true history event).1 (record { root = event; live = live; holds = inl refl })

-- so is what is behind a held event
pub IsHeldBy-on : (agreed : Agreed) (x y : ℕ) → IsHeldBy agreed x → reach agreed.pairs x y ≡ true → IsHeldBy agreed y
IsHeldBy-on agreed x y held path = record { root = held.root; live = held.live; holds = inr (to held.holds) }
  where
    to : (held.root ≡ x) ⊎ (reach agreed.pairs held.root x ≡ true) → reach agreed.pairs held.root y ≡ true
    to (inl same) = subst (λ v. reach agreed.pairs v y ≡ true) (sym same) path
    to (inr more) = reach-trans agreed.pairs held.root x y more path

pub is_held-on : (history : List Entry) (x y : ℕ) → is_held history x ≡ true → reach (pairs_of history) x y ≡ true → is_held history y ≡ true
is_held-on history x y held path = (is_held-true history y).1 (IsHeldBy-on (agreed_of history) x y ((is_held-true history x).0 held) path)

-- what is held has all paths from a held event
pub reach-held_pairs : (history : List Entry) (a b : ℕ) → is_held history a ≡ true → reach (held_pairs history) a b ≡ reach (pairs_of history) a b
reach-held_pairs history a b held = reach_filtered (is_held history) (pairs_of history) (is_held-on history) a b held

-- a path begins at an event that was made
leads_from-born : (born : ℕ) (newest : List (ℕ × ℕ)) → IsBornOrder born newest → (a b : ℕ) → leads newest a b ≡ true → a ≤ born
leads_from-born born [] all a b path = cc
leads_from-born born (pair ∷ older) all a b path =
    elim (leads_cases pair older a b path) [
      | inl old ↦ leads_from-born born older all.1 a b old
      | inr over ↦ elim over.to [
        | inl same ↦ let first = all.0.first in omega (arith, same, first.1)
        | inr more ↦ leads_from-born born older all.1 a pair.0 more
      ]
    ]

-- from a live event the order leads to held events only
abbrev LeadsToHeld : Agreed → List (ℕ × ℕ) → Type 0
LeadsToHeld agreed order = (root event : ℕ) → 0 < agreed.count root → reach order root event ≡ true → IsHeldBy agreed event

-- a pair of live events leads from held events to held ones
LeadsToHeld-push : (agreed : Agreed) (order : List (ℕ × ℕ)) (x y : ℕ) → LeadsToHeld agreed order → 0 < agreed.count y → LeadsToHeld agreed (order ++ (x, y) ∷ [])
LeadsToHeld-push agreed order x y known live root event rooted path =
    elim (or_cases (reach order root event) ((eqb root x || reach order root x) && (eqb y event || reach order y event)) (sym (reach-push order x y root event) ∙ path)) [
      | inl old ↦ known root event rooted old
      | inr over ↦ elim (or_cases (eqb y event) (reach order y event) (and_parts (eqb root x || reach order root x) (eqb y event || reach order y event) over).1) [
        | inl same ↦ record { root = y; live = live; holds = inl (eqb-true y event same) }
        | inr on ↦ known y event live on
      ]
    ]

-- the pair of a batch is of live events
abbrev IsKnown : Agreed → Pair → Type 0
IsKnown agreed pair = not (both_live agreed pair.first.0 pair.second.0) ≡ false

with_pair-held : (agreed : Agreed) (order : List (ℕ × ℕ)) (pair : Pair) → LeadsToHeld agreed order → IsKnown agreed pair → LeadsToHeld agreed (with_pair order pair)
with_pair-held agreed order pair known live =
    let both = and_parts (is_live agreed pair.first.0) (is_live agreed pair.second.0) (not-false (both_live agreed pair.first.0 pair.second.0) live) in
    let second = ltb-true 0 (agreed.count pair.second.0) both.1 in
    elim (reach order pair.first.0 pair.second.0) as (λ said. LeadsToHeld agreed (cond said order (order ++ (pair.first.0, pair.second.0) ∷ []))) [ true ↦ known | false ↦ LeadsToHeld-push agreed order pair.first.0 pair.second.0 known second ]

with_must-held : (agreed : Agreed) (order : List (ℕ × ℕ)) (pair : Pair) → LeadsToHeld agreed order → IsKnown agreed pair → LeadsToHeld agreed (with_must order pair)
with_must-held agreed order pair known live =
    elim (is_must pair.kind) as (λ must. LeadsToHeld agreed (cond must (with_pair order pair) order)) [ true ↦ with_pair-held agreed order pair known live | false ↦ known ]

with_prefer-held : (agreed : Agreed) (order : List (ℕ × ℕ)) (pair : Pair) → LeadsToHeld agreed order → IsKnown agreed pair → LeadsToHeld agreed (with_prefer order pair)
with_prefer-held agreed order pair known live =
    elim (is_must pair.kind || forbids order pair) as (λ out. LeadsToHeld agreed (cond out order (with_pair order pair))) [ true ↦ known | false ↦ with_pair-held agreed order pair known live ]

LeadsToHeld-fold : (agreed : Agreed) (f : List (ℕ × ℕ) → Pair → List (ℕ × ℕ)) → ((order : List (ℕ × ℕ)) (pair : Pair) → LeadsToHeld agreed order → IsKnown agreed pair → LeadsToHeld agreed (f order pair)) → (order : List (ℕ × ℕ)) (batch : List Pair) → LeadsToHeld agreed order → AllByRecursion (IsKnown agreed) batch → LeadsToHeld agreed (fold f order batch)
LeadsToHeld-fold agreed f each order [] known all = known
LeadsToHeld-fold agreed f each order (pair ∷ more) known all = LeadsToHeld-fold agreed f each (f order pair) more (each order pair known all.0) all.1

-- a batch of live events leads from held events to held ones
pairs_with-held : (agreed : Agreed) (batch : List Pair) → AllByRecursion (IsKnown agreed) batch → LeadsToHeld agreed (pairs_with agreed.pairs batch)
pairs_with-held agreed batch all =
    LeadsToHeld-fold agreed with_prefer (with_prefer-held agreed) (musts_from agreed.pairs batch) batch (LeadsToHeld-fold agreed with_must (with_must-held agreed) agreed.pairs batch (λ root event live path. record { root = root; live = live; holds = inr path }) all) all

pairs_after-held : (command : Command) (agreed : Agreed) → LeadsToHeld agreed (pairs_after command agreed)
pairs_after-held Create agreed = λ root event live path. record { root = root; live = live; holds = inr path }
pairs_after-held (Acquire target) agreed = λ root event live path. record { root = root; live = live; holds = inr path }
pairs_after-held (Release target) agreed = λ root event live path. record { root = root; live = live; holds = inr path }
pairs_after-held (Assign batch) agreed = by_test (accepts agreed batch) refl
  where
    by_test : (taken : Bool) → accepts agreed batch ≡ taken → LeadsToHeld agreed (cond taken (pairs_with agreed.pairs batch) agreed.pairs)
    by_test true is =
        let none = none_by_test (first_unknown agreed batch) (and_parts (is_none (first_unknown agreed batch)) (is_none (contradicts agreed.pairs batch)) is).0 in
        let test : Pair → Bool = λ pair. not (both_live agreed pair.first.0 pair.second.0) in
        pairs_with-held agreed batch (no_position test 0 batch (sym (position_from-zero test batch) ∙ none))
    by_test false is = λ root event live path. record { root = root; live = live; holds = inr path }

-- an event that is live after a command was live, or is the one that it makes
live_was : (command : Command) (born event count : ℕ) → 0 < count_after command born event count → (0 < count) ⊎ ((event ≡ born + 1) × (command ≡ Create))
live_was Create born event count live = by_test (eqb event (born + 1)) refl live
  where
    by_test : (new : Bool) → eqb event (born + 1) ≡ new → 0 < cond new 1 count → (0 < count) ⊎ ((event ≡ born + 1) × (Create ≡ Create))
    by_test true is live = inr (eqb-true event (born + 1) is, refl)
    by_test false is live = inl live
live_was (Assign batch) born event count live = inl live
live_was (Acquire target) born event count live = inl (by_test (eqb event target.0) (ltb 0 count) refl live)
  where
    by_test : (same some : Bool) → ltb 0 count ≡ some → 0 < cond (same && some) (count + 1) count → 0 < count
    by_test true true is live = ltb-true 0 count is
    by_test true false is live = live
    by_test false some is live = live
live_was (Release target) born event count live = inl (by_test (eqb event target.0) live)
  where
    by_test : (same : Bool) → 0 < cond same (count - 1) count → 0 < count
    by_test true live = omega arith
    by_test false live = live

-- an event that was made before a command, and is held after it, was held before it
held_was : (entry : Entry) (agreed : Agreed) (event : ℕ) → IsOverBorn agreed → event ≤ agreed.born → IsHeldBy (after agreed entry) event → IsHeldBy agreed event
held_was entry agreed event over old held =
    elim (live_was entry.command agreed.born held.root (agreed.count held.root) held.live) [
      | inl live ↦ still live held.holds
      | inr new ↦ absurd (never new.0 new.1 held.holds)
    ]
  where
    still : 0 < agreed.count held.root → (held.root ≡ event) ⊎ (reach (pairs_after entry.command agreed) held.root event ≡ true) → IsHeldBy agreed event
    still live (inl same) = record { root = held.root; live = live; holds = inl same }
    still live (inr path) = pairs_after-held entry.command agreed held.root event live path

    never : held.root ≡ agreed.born + 1 → entry.command ≡ Create → (held.root ≡ event) ⊎ (reach (pairs_after entry.command agreed) held.root event ≡ true) → ⊥
    never new create (inl same) = omega (arith, new, same, old)
    never new create (inr path) =
        let before : reach agreed.pairs held.root event ≡ true = subst (λ command. reach (pairs_after command agreed) held.root event ≡ true) create path in
        let begins = leads_from-born agreed.born (reverse agreed.pairs) (AllByRecursion-reverse (IsBornPair agreed.born) agreed.pairs over.pairs) held.root event (reach-path agreed.pairs held.root event before) in
        omega (arith, new, begins)

-- an event that was made, and is not held, is not held after more entries
unheld_stays : (history more : List Entry) (event : ℕ) → event ≤ born_in history → (IsHeldBy (agreed_of history) event → ⊥) → IsHeldBy (agreed_of (history ++ more)) event → ⊥
unheld_stays history [] event old unheld held =
    unheld (subst (λ longer. IsHeldBy (agreed_of longer) event) (append-nil history) held)
unheld_stays history (entry ∷ more) event old unheld held =
    let longer = history ++ entry ∷ [] in
    let next : IsHeldBy (agreed_of longer) event → ⊥ = λ is. unheld (held_was entry (agreed_of history) event (over_born history) (omega (arith, old, born-agreed history)) (subst (λ agreed. IsHeldBy agreed event) (agreed_of-push history entry) is)) in
    let older : event ≤ born_in longer = omega (arith, old, born_in_grows history longer (IsPrefix-append history (entry ∷ []))) in
    unheld_stays longer more event older next (subst (λ whole. IsHeldBy (agreed_of whole) event) (sym (append_assoc history (entry ∷ []) more)) held)

-- an event that is not held never is again
pub never_held_again : (history longer : List Entry) (event : ℕ) → IsPrefix history longer → event ≤ born_in history → is_held history event ≡ false → is_held longer event ≡ false
never_held_again history longer event front old unheld =
    let never = unheld_stays history front.more event old (λ held. both_ways (is_held history event) unheld ((is_held-true history event).1 held)) in
    false_from_ne_true (is_held longer event) (λ held. never (subst (λ whole. IsHeldBy (agreed_of whole) event) front.is ((is_held-true longer event).0 held)))

pub collected_idle : CollectedEventsAreIdle
collected_idle =
    record { paths = λ history a b live. reach-held_pairs history a b (is_held-live history a live); for_good = never_held_again }
