-- What is needed stays so where a dead event without a predecessor is taken out.
use Rattle.std.proofs.Common.{◌≡◌, ◌⊎◌, ℕ, ◌<◌, Bool, true, false, not, cond, eqb, ltb, ◌&&◌, ◌||◌, List, [], ◌∷◌, ◌++◌, length, get_or, refl, sym, ap, ◌∙◌, subst, inl, inr, arith}
use Rattle.std.specs.Prelude.{reverse}
use Rattle.std.specs.List.{All, AllByRecursion, filter, list_any}
use Rattle.std.proofs.lemmas.Bool.{both_ways, eq-eqb, eqb-true, ne_eqb, and_right, or_from}
use Rattle.std.proofs.lemmas.List.{reverse-append, append-nil}
use Rattle.std.proofs.lemmas.List.Elements.{filter-append, filter_agree, recursion_from_All}
use Rattle.kr_order.specs.Order.{reach}
use Rattle.kr_order.proofs.PathLemmas.{leads}
use Rattle.kr_order.proofs.RoundLemmas.{reach-leads}
use Rattle.dep_graph.specs.GraphView.{without, pairs_without, ins_of}
use Rattle.dep_graph.proofs.ChainLemmas.{All-reverse}
use Rattle.dep_graph.proofs.ChangeLemmas.{no_second}
use Rattle.ref_collect.specs.Counts.{count_of}
use Rattle.ref_collect.specs.Needed.{holds, is_needed, needed_events, needed_pairs, NeedsTheSame}

-- no pair leads to the event; the pairs stand with the newest first
abbrev NoneInto : ℕ → List (ℕ × ℕ) → Type 0
NoneInto event newest = AllByRecursion (λ pair. eqb pair.1 event ≡ false) newest

-- no path leads there
leads_into : (newest : List (ℕ × ℕ)) (a event : ℕ) → NoneInto event newest → leads newest a event ≡ false
leads_into [] a event none = refl
leads_into (pair ∷ older) a event none =
    ap (λ t. t || ((eqb a pair.0 || leads older a pair.0) && (eqb pair.1 event || leads older pair.1 event))) (leads_into older a event none.1) ∙ and_right (eqb a pair.0 || leads older a pair.0) (eqb pair.1 event || leads older pair.1 event) (or_from (eqb pair.1 event) (leads older pair.1 event) none.0 (leads_into older pair.1 event none.1))

or-false : (t : Bool) → (t || false) ≡ t
or-false true = refl
or-false false = refl

-- a path from another event does without the event's pairs
leads-without : (newest : List (ℕ × ℕ)) (gone a b : ℕ) → NoneInto gone newest → eqb a gone ≡ false → leads (pairs_without newest gone) a b ≡ leads newest a b
leads-without [] gone a b none other = refl
leads-without (pair ∷ older) gone a b none other =
    one (eqb pair.0 gone) refl (leads-without older gone a b none.1 other) (leads-without older gone a pair.0 none.1 other) (leads-without older gone pair.1 b none.1 none.0) (leads_into older a gone none.1)
  where
    one : (same : Bool) → eqb pair.0 gone ≡ same → leads (pairs_without older gone) a b ≡ leads older a b → leads (pairs_without older gone) a pair.0 ≡ leads older a pair.0 → leads (pairs_without older gone) pair.1 b ≡ leads older pair.1 b → leads older a gone ≡ false → leads (cond (not same) (pair ∷ pairs_without older gone) (pairs_without older gone)) a b ≡ leads (pair ∷ older) a b
    one true same rest to on into =
        let is : pair.0 ≡ gone = eqb-true pair.0 gone same in
        let not_first : (eqb a pair.0 || leads older a pair.0) ≡ false = ap (λ e. eqb a e || leads older a e) is ∙ or_from (eqb a gone) (leads older a gone) other into in
        rest ∙ sym (ap (λ t. leads older a b || (t && (eqb pair.1 b || leads older pair.1 b))) not_first ∙ or-false (leads older a b))
    one false same rest to on into =
        ap (λ t. t || ((eqb a pair.0 || leads (pairs_without older gone) a pair.0) && (eqb pair.1 b || leads (pairs_without older gone) pair.1 b))) rest ∙ ap (λ t. leads older a b || ((eqb a pair.0 || t) && (eqb pair.1 b || leads (pairs_without older gone) pair.1 b))) to ∙ ap (λ t. leads older a b || ((eqb a pair.0 || leads older a pair.0) && (eqb pair.1 b || t))) on

-- the pairs but the event's, the newest first
reverse-without : (pairs : List (ℕ × ℕ)) (gone : ℕ) → reverse (pairs_without pairs gone) ≡ pairs_without (reverse pairs) gone
reverse-without [] gone = refl
reverse-without (pair ∷ more) gone =
    one (eqb pair.0 gone) refl (reverse-without more gone) ∙ sym (ap (λ l. pairs_without l gone) (reverse-append (pair ∷ []) more) ∙ filter-append (λ (p : ℕ × ℕ). not (eqb p.0 gone)) (reverse more) (pair ∷ []))
  where
    one : (same : Bool) → eqb pair.0 gone ≡ same → reverse (pairs_without more gone) ≡ pairs_without (reverse more) gone → reverse (cond (not same) (pair ∷ pairs_without more gone) (pairs_without more gone)) ≡ pairs_without (reverse more) gone ++ cond (not (eqb pair.0 gone)) (pair ∷ []) []
    one true same rest = rest ∙ sym (ap (λ t. pairs_without (reverse more) gone ++ cond (not t) (pair ∷ []) []) same ∙ append-nil (pairs_without (reverse more) gone))
    one false same rest = reverse-append (pair ∷ []) (pairs_without more gone) ∙ ap (λ l. l ++ pair ∷ []) rest ∙ sym (ap (λ t. pairs_without (reverse more) gone ++ cond (not t) (pair ∷ []) []) same)

none_into : (pairs : List (ℕ × ℕ)) (event : ℕ) → ins_of pairs event ≡ 0 → NoneInto event (reverse pairs)
none_into pairs event source =
    recursion_from_All (λ (pair : ℕ × ℕ). eqb pair.1 event ≡ false) (reverse pairs) (All-reverse (λ (pair : ℕ × ℕ). eqb pair.1 event ≡ false) pairs (no_second pairs event source))

-- an event without a predecessor is behind no event
pub reach_into : (pairs : List (ℕ × ℕ)) (a event : ℕ) → ins_of pairs event ≡ 0 → reach pairs a event ≡ false
reach_into pairs a event source = reach-leads pairs a event ∙ leads_into (reverse pairs) a event (none_into pairs event source)

-- what another event is before stays without its pairs
pub reach-without : (pairs : List (ℕ × ℕ)) (gone a b : ℕ) → ins_of pairs gone ≡ 0 → eqb a gone ≡ false → reach (pairs_without pairs gone) a b ≡ reach pairs a b
reach-without pairs gone a b source other =
    reach-leads (pairs_without pairs gone) a b ∙ ap (λ newest. leads newest a b) (reverse-without pairs gone) ∙ leads-without (reverse pairs) gone a b (none_into pairs gone source) other ∙ sym (reach-leads pairs a b)

-- a dead event holds no other
holds-dead : (counts pairs : List (ℕ × ℕ)) (event root : ℕ) → count_of counts root ≡ 0 → holds counts pairs event root ≡ false
holds-dead counts pairs event root dead = ap (λ n. ltb 0 n && (eqb root event || reach pairs root event)) dead

-- what is needed without a dead event that has no predecessor
pub is_needed-without : (counts pairs : List (ℕ × ℕ)) (vertices : List ℕ) (gone event : ℕ) → count_of counts gone ≡ 0 → ins_of pairs gone ≡ 0 → is_needed counts (pairs_without pairs gone) (without vertices gone) event ≡ is_needed counts pairs vertices event
is_needed-without counts pairs [] gone event dead source = refl
is_needed-without counts pairs (vertex ∷ more) gone event dead source =
    one (eqb vertex gone) refl (is_needed-without counts pairs more gone event dead source)
  where
    one : (same : Bool) → eqb vertex gone ≡ same → is_needed counts (pairs_without pairs gone) (without more gone) event ≡ is_needed counts pairs more event → is_needed counts (pairs_without pairs gone) (cond (not same) (vertex ∷ without more gone) (without more gone)) event ≡ (holds counts pairs event vertex || is_needed counts pairs more event)
    one true same rest =
        rest ∙ sym (ap (λ t. t || is_needed counts pairs more event) (holds-dead counts pairs event vertex (ap (count_of counts) (eqb-true vertex gone same) ∙ dead)))
    one false same rest =
        ap (λ t. (ltb 0 (count_of counts vertex) && (eqb vertex event || t)) || is_needed counts (pairs_without pairs gone) (without more gone) event) (reach-without pairs gone vertex event source same) ∙ ap (λ t. holds counts pairs event vertex || t) rest

-- that event is not needed
pub is_needed-gone : (counts pairs : List (ℕ × ℕ)) (vertices : List ℕ) (gone : ℕ) → count_of counts gone ≡ 0 → ins_of pairs gone ≡ 0 → is_needed counts pairs vertices gone ≡ false
is_needed-gone counts pairs [] gone dead source = refl
is_needed-gone counts pairs (vertex ∷ more) gone dead source =
    or_from (holds counts pairs gone vertex) (is_needed counts pairs more gone) (one (eqb vertex gone) refl) (is_needed-gone counts pairs more gone dead source)
  where
    one : (same : Bool) → eqb vertex gone ≡ same → holds counts pairs gone vertex ≡ false
    one true same = holds-dead counts pairs gone vertex (ap (count_of counts) (eqb-true vertex gone same) ∙ dead)
    one false same = and_right (ltb 0 (count_of counts vertex)) (eqb vertex gone || reach pairs vertex gone) (or_from (eqb vertex gone) (reach pairs vertex gone) same (reach_into pairs vertex gone source))

-- a filter that leaves something out has no need of another one that does
filter-without : {X : Type 0} (key : X → ℕ) (gone : ℕ) (test : ℕ → Bool) (xs : List X) → test gone ≡ false → filter (λ x. test (key x)) (filter (λ x. not (eqb (key x) gone)) xs) ≡ filter (λ x. test (key x)) xs
filter-without key gone test [] fails = refl
filter-without key gone test (x ∷ xs) fails = one (eqb (key x) gone) refl (filter-without key gone test xs fails)
  where
    one : (same : Bool) → eqb (key x) gone ≡ same → filter (λ x. test (key x)) (filter (λ x. not (eqb (key x) gone)) xs) ≡ filter (λ x. test (key x)) xs → filter (λ x. test (key x)) (cond (not same) (x ∷ filter (λ x. not (eqb (key x) gone)) xs) (filter (λ x. not (eqb (key x) gone)) xs)) ≡ cond (test (key x)) (x ∷ filter (λ x. test (key x)) xs) (filter (λ x. test (key x)) xs)
    one true same rest = rest ∙ sym (ap (λ t. cond t (x ∷ filter (λ x. test (key x)) xs) (filter (λ x. test (key x)) xs)) (ap test (eqb-true (key x) gone same) ∙ fails))
    one false same rest = ap (λ l. cond (test (key x)) (x ∷ l) l) rest

-- the same is needed without it
pub needs_the_same : (counts pairs : List (ℕ × ℕ)) (vertices : List ℕ) (gone : ℕ) → count_of counts gone ≡ 0 → ins_of pairs gone ≡ 0 → NeedsTheSame counts pairs vertices (pairs_without pairs gone) (without vertices gone)
needs_the_same counts pairs vertices gone dead source =
    record {
      events = filter_agree (is_needed counts (pairs_without pairs gone) (without vertices gone)) (is_needed counts pairs vertices) (λ event. is_needed-without counts pairs vertices gone event dead source) (without vertices gone) ∙ filter-without (λ event. event) gone (is_needed counts pairs vertices) vertices fails;
      pairs = filter_agree (λ (pair : ℕ × ℕ). is_needed counts (pairs_without pairs gone) (without vertices gone) pair.0) (λ pair. is_needed counts pairs vertices pair.0) (λ pair. is_needed-without counts pairs vertices gone pair.0 dead source) (pairs_without pairs gone) ∙ filter-without (λ (pair : ℕ × ℕ). pair.0) gone (is_needed counts pairs vertices) pairs fails;
    }
  where
    fails : is_needed counts pairs vertices gone ≡ false
    fails = is_needed-gone counts pairs vertices gone dead source
