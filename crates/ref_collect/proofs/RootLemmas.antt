-- In an order without a cycle each event has an event without a predecessor before it, or is one itself. So all is
-- needed where each such event is live.
use Rattle.std.proofs.Common.{◌≡◌, ◌⊎◌, ℕ, ◌+◌, ◌<◌, Bool, true, false, cond, eqb, ltb, ◌&&◌, ◌||◌, List, [], ◌∷◌, ◌++◌, length, get_or, refl, sym, ap, ◌∙◌, subst, inl, inr, arith, add_comm, zero-add, add-zero}
use Rattle.std.specs.Prelude.{reverse}
use Rattle.std.specs.List.{All, AllByRecursion, filter, list_any}
use Rattle.std.proofs.lemmas.Bool.{both_ways, eq-eqb, eqb-true, ne_eqb, and_from, and_parts, or_cases, or_left, or_right, or_parts, lt-ltb}
use Rattle.std.proofs.lemmas.List.{reverse-append}
use Rattle.std.proofs.lemmas.List.Elements.{recursion_from_All}
use Rattle.std.proofs.lemmas.List.Folds.{list_any_at}
use Rattle.kr_order.specs.Order.{reach, IsAcyclic}
use Rattle.kr_order.proofs.PathLemmas.{leads}
use Rattle.kr_order.proofs.RoundLemmas.{reach-leads}
use Rattle.kr_order.proofs.OrderLemmas.{reach-path}
use Rattle.dep_graph.specs.GraphView.{GraphView, is_held, ins_of, JoinsHeld, IsGraph}
use Rattle.dep_graph.proofs.PairLemmas.{ins_of-cons, ins_of-append}
use Rattle.dep_graph.proofs.ChainLemmas.{All-reverse}
use Rattle.ref_collect.specs.Counts.{count_of}
use Rattle.ref_collect.specs.Needed.{holds, is_needed, needed_events, needed_pairs, AreKept, NeedsTheSame}

-- an event without a predecessor that is the event or before it; the pairs stand with the newest first
record HasRoot (newest : List (ℕ × ℕ)) (event : ℕ) : Type 0 where
  root : ℕ
  before : (eqb root event || leads newest root event) ≡ true
  source : ins_of newest root ≡ 0

-- no event is before itself
abbrev HasNoCycle : List (ℕ × ℕ) → Type 0
HasNoCycle newest = (event : ℕ) → leads newest event event ≡ false

-- over one more pair
has_root-more : (pair : ℕ × ℕ) (older : List (ℕ × ℕ)) (event : ℕ) → HasNoCycle (pair ∷ older) → HasRoot older event → HasRoot older pair.0 → HasRoot (pair ∷ older) event
has_root-more pair older event acyclic of_event of_first = one (eqb pair.1 of_event.root) refl
  where
    one : (same : Bool) → eqb pair.1 of_event.root ≡ same → HasRoot (pair ∷ older) event
    one false same =
        record {
          root = of_event.root;
          before = further (eqb of_event.root event) (leads older of_event.root event) ((eqb of_event.root pair.0 || leads older of_event.root pair.0) && (eqb pair.1 event || leads older pair.1 event)) of_event.before;
          source = ins_of-cons pair older of_event.root ∙ ap (λ t. cond t 1 0 + ins_of older of_event.root) same ∙ zero-add (ins_of older of_event.root) ∙ of_event.source;
        }
      where
        further : (t x y : Bool) → (t || x) ≡ true → (t || (x || y)) ≡ true
        further true x y holds = refl
        further false true y holds = refl
        further false false y holds = absurd (both_ways false refl holds)
    one true same =
        let is : pair.1 ≡ of_event.root = eqb-true pair.1 of_event.root same in
        let on : (eqb pair.1 event || leads older pair.1 event) ≡ true = ap (λ e. eqb e event || leads older e event) is ∙ of_event.before in
        let over : leads (pair ∷ older) of_first.root event ≡ true = or_right (leads older of_first.root event) ((eqb of_first.root pair.0 || leads older of_first.root pair.0) && (eqb pair.1 event || leads older pair.1 event)) (and_from (eqb of_first.root pair.0 || leads older of_first.root pair.0) (eqb pair.1 event || leads older pair.1 event) of_first.before on) in
        let other : eqb pair.1 of_first.root ≡ false = ne_eqb pair.1 of_first.root (λ same. cycle (ap (λ e. eqb e pair.0 || leads older e pair.0) same ∙ of_first.before)) in
        record {
          root = of_first.root;
          before = or_right (eqb of_first.root event) (leads (pair ∷ older) of_first.root event) over;
          source = ins_of-cons pair older of_first.root ∙ ap (λ t. cond t 1 0 + ins_of older of_first.root) other ∙ zero-add (ins_of older of_first.root) ∙ of_first.source;
        }
      where
        cycle : (eqb pair.1 pair.0 || leads older pair.1 pair.0) ≡ true → ⊥
        cycle back =
            both_ways (leads (pair ∷ older) pair.0 pair.0) (acyclic pair.0) (or_right (leads older pair.0 pair.0) ((eqb pair.0 pair.0 || leads older pair.0 pair.0) && (eqb pair.1 pair.0 || leads older pair.1 pair.0)) (and_from (eqb pair.0 pair.0 || leads older pair.0 pair.0) (eqb pair.1 pair.0 || leads older pair.1 pair.0) (or_left (eqb pair.0 pair.0) (leads older pair.0 pair.0) (eq-eqb pair.0 pair.0 refl)) back))

acyclic-older : (pair : ℕ × ℕ) (older : List (ℕ × ℕ)) → HasNoCycle (pair ∷ older) → HasNoCycle older
acyclic-older pair older acyclic event =
    (or_parts (leads older event event) ((eqb event pair.0 || leads older event pair.0) && (eqb pair.1 event || leads older pair.1 event)) (acyclic event)).0

has_root : (newest : List (ℕ × ℕ)) (event : ℕ) → HasNoCycle newest → HasRoot newest event
has_root [] event acyclic = record { root = event; before = or_left (eqb event event) false (eq-eqb event event refl); source = refl }
has_root (pair ∷ older) event acyclic =
    has_root-more pair older event acyclic (has_root older event (acyclic-older pair older acyclic)) (has_root older pair.0 (acyclic-older pair older acyclic))

-- the order of pairs does not matter for a count
ins_of-reverse : (pairs : List (ℕ × ℕ)) (event : ℕ) → ins_of (reverse pairs) event ≡ ins_of pairs event
ins_of-reverse [] event = refl
ins_of-reverse (pair ∷ more) event =
    let parts = ap (λ l. ins_of l event) (reverse-append (pair ∷ []) more) ∙ ins_of-append (reverse more) (pair ∷ []) event in
    let one = ins_of-cons pair more event in
    let last = ins_of-cons pair [] event in
    omega (arith, parts, one, last, ins_of-reverse more event)

-- an event that is before another is the first of a pair
leads_first : (vertices : List ℕ) (newest : List (ℕ × ℕ)) (a b : ℕ) → AllByRecursion (JoinsHeld vertices) newest → leads newest a b ≡ true → is_held vertices a ≡ true
leads_first vertices [] a b joined path = absurd (both_ways false refl path)
leads_first vertices (pair ∷ older) a b joined path =
    elim (or_cases (leads older a b) ((eqb a pair.0 || leads older a pair.0) && (eqb pair.1 b || leads older pair.1 b)) path) [
      | inl old ↦ leads_first vertices older a b joined.1 old
      | inr over ↦ elim (or_cases (eqb a pair.0) (leads older a pair.0) (and_parts (eqb a pair.0 || leads older a pair.0) (eqb pair.1 b || leads older pair.1 b) over).0) [
        | inl same ↦ subst (λ e. is_held vertices e ≡ true) (sym (eqb-true a pair.0 same)) joined.0.first
        | inr to ↦ leads_first vertices older a pair.0 joined.1 to
      ]
    ]

-- a held event that holds another makes it needed
needed_by : (test : ℕ → Bool) (vertices : List ℕ) (root : ℕ) → is_held vertices root ≡ true → test root ≡ true → list_any test vertices ≡ true
needed_by test [] root held holds = absurd (both_ways false refl held)
needed_by test (vertex ∷ more) root held holds =
    elim (or_cases (eqb vertex root) (is_held more root) held) [
      | inl same ↦ or_left (test vertex) (list_any test more) (ap test (eqb-true vertex root same) ∙ holds)
      | inr behind ↦ or_right (test vertex) (list_any test more) (needed_by test more root behind holds)
    ]

-- each held event is needed where all without a predecessor are live
pub all_needed : (counts pairs : List (ℕ × ℕ)) (vertices : List ℕ) (event : ℕ) → All (JoinsHeld vertices) pairs → IsAcyclic pairs → AreKept counts pairs vertices → is_held vertices event ≡ true → is_needed counts pairs vertices event ≡ true
all_needed counts pairs vertices event joined acyclic kept held =
    let found = has_root (reverse pairs) event (λ e. sym (reach-leads pairs e e) ∙ acyclic.no_cycle e) in
    let before : (eqb found.root event || reach pairs found.root event) ≡ true = ap (λ t. eqb found.root event || t) (reach-leads pairs found.root event) ∙ found.before in
    let root_held : is_held vertices found.root ≡ true = elim (or_cases (eqb found.root event) (reach pairs found.root event) before) [
      | inl same ↦ ap (is_held vertices) (eqb-true found.root event same) ∙ held
      | inr path ↦ leads_first vertices (reverse pairs) found.root event (recursion_from_All (JoinsHeld vertices) (reverse pairs) (All-reverse (JoinsHeld vertices) pairs joined)) (reach-path pairs found.root event path)
    ] in
    let live : ltb 0 (count_of counts found.root) ≡ true = lt-ltb 0 (count_of counts found.root) (kept found.root root_held (sym (ins_of-reverse pairs found.root) ∙ found.source)) in
    needed_by (holds counts pairs event) vertices found.root root_held (and_from (ltb 0 (count_of counts found.root)) (eqb found.root event || reach pairs found.root event) live before)

-- a filter that lets all pass
filter_whole : {X : Type 0} (test : X → Bool) (xs : List X) → AllByRecursion (λ x. test x ≡ true) xs → filter test xs ≡ xs
filter_whole test [] all = refl
filter_whole test (x ∷ xs) all = ap (λ t. cond t (x ∷ filter test xs) (filter test xs)) all.0 ∙ ap (λ l. x ∷ l) (filter_whole test xs all.1)

-- so what is needed of a graph is what it has
pub needed_events_all : (counts pairs : List (ℕ × ℕ)) (vertices : List ℕ) → All (JoinsHeld vertices) pairs → IsAcyclic pairs → AreKept counts pairs vertices → needed_events counts pairs vertices ≡ vertices
needed_events_all counts pairs vertices joined acyclic kept =
    filter_whole (is_needed counts pairs vertices) vertices (recursion_from_All (λ event. is_needed counts pairs vertices event ≡ true) vertices (λ k d below. all_needed counts pairs vertices (get_or vertices k d) joined acyclic kept (list_any_at (λ vertex. eqb vertex (get_or vertices k d)) vertices k d below (eq-eqb (get_or vertices k d) (get_or vertices k d) refl))))

pub needed_pairs_all : (counts pairs : List (ℕ × ℕ)) (vertices : List ℕ) → All (JoinsHeld vertices) pairs → IsAcyclic pairs → AreKept counts pairs vertices → needed_pairs counts pairs vertices ≡ pairs
needed_pairs_all counts pairs vertices joined acyclic kept =
    filter_whole (λ pair. is_needed counts pairs vertices pair.0) pairs (recursion_from_All (λ (pair : ℕ × ℕ). is_needed counts pairs vertices pair.0 ≡ true) pairs (λ k d below. all_needed counts pairs vertices (get_or pairs k d).0 joined acyclic kept (joined k d below).first))
