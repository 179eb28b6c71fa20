-- What always holds of an order, and what its plans are by what is agreed on.
use Rattle.std.proofs.Common.{◌≡◌, ℕ, ◌+◌, ◌-◌, ◌<◌, ◌≤◌, Bool, true, false, cond, eqb, ltb, ◌&&◌, ◌||◌, List, [], ◌∷◌, ◌++◌, refl, sym, ap, ◌∙◌, subst, inl, inr, arith}
use Rattle.std.specs.Prelude.{None, map}
use Rattle.std.specs.List.{All, AllByRecursion, filter, list_any}
use Rattle.std.proofs.lemmas.Bool.{and_from, eq-eqb, eqb-true, eqb-false, lt-ltb, ltb-true, ne_eqb, or_left, or_right, or_cases}
use Rattle.std.proofs.lemmas.List.Elements.{All-filter, All-from_recursion, All-push, All-weaker, recursion_from_All}
use Rattle.std.proofs.lemmas.List.Folds.{list_any-append}
use Rattle.std.proofs.lemmas.List.Sums.{sum_by-append}
use Rattle.kr_order.specs.declared.batch.Pair.{Pair}
use Rattle.kr_order.specs.Order.{reach}
use Rattle.kr_order.specs.Agreed.{Agreed, is_live}
use Rattle.dep_graph.specs.GraphView.{GraphView, is_held, ins_of}
use Rattle.ref_collect.specs.Counts.{count_of}
use Rattle.ref_collect.specs.Needed.{holds, is_needed, AreKeptBut}
use Rattle.batch_assign.specs.declared.adds.Plan.{Plan}
use Rattle.batch_assign.specs.declared.adds.BatchStop.{BatchStop}
use Rattle.batch_assign.specs.declared.adds.BatchStop.TheVariants as stop
use Rattle.batch_assign.specs.Plan as batch
use Rattle.order_state.specs.Ordered.{IsOrder}
use Rattle.order_state.specs.Decision.{IsPlan, IsStop}

-- what is agreed on where an order has so many births, these references and these pairs
abbrev pub agreed_by : ℕ → List (ℕ × ℕ) → List (ℕ × ℕ) → Agreed
agreed_by born counts pairs = record { born = born; count = count_of counts; pairs = pairs }

-- a live event is held
pub is_held-live : (born : ℕ) (counts : List (ℕ × ℕ)) (graph : GraphView) (event : ℕ) → IsOrder born counts graph →
    is_live (agreed_by born counts graph.pairs) event ≡ true → is_held graph.vertices event ≡ true
is_held-live born counts graph event order live = order.live event (ltb-true 0 (count_of counts event) live)

-- what holds of each event that is listed holds wherever the same events are
All-firsts : (P : ℕ → Type 0) (xs ys : List (ℕ × ℕ)) → map (λ entry. entry.0) ys ≡ map (λ entry. entry.0) xs →
    All (λ entry. P entry.0) xs → All (λ entry. P entry.0) ys
All-firsts P xs ys same all = All-from_recursion (λ (entry : ℕ × ℕ). P entry.0) ys (on xs ys same (recursion_from_All (λ (entry : ℕ × ℕ). P entry.0) xs all))
  where
    on : (xs ys : List (ℕ × ℕ)) → map (λ entry. entry.0) ys ≡ map (λ entry. entry.0) xs →
        AllByRecursion (λ entry. P entry.0) xs → AllByRecursion (λ entry. P entry.0) ys
    on [] [] same all = tt
    on (x ∷ xs) [] same all = cc
    on [] (y ∷ ys) same all = cc
    on (x ∷ xs) (y ∷ ys) same all =
        let first : y.0 ≡ x.0 = cc in
        let rest : map (λ entry. entry.0) ys ≡ map (λ entry. entry.0) xs = cc in
        (subst P (sym first) all.0, on xs ys rest all.1)

-- an order with one reference more
pub IsOrder-acquire : (born : ℕ) (counts counts' : List (ℕ × ℕ)) (graph : GraphView) (id : ℕ) →
    IsOrder born counts graph →
    ((event : ℕ) → count_of counts' event ≡ cond (eqb event id && ltb 0 (count_of counts event)) (count_of counts event + 1) (count_of counts event)) →
    map (λ entry. entry.0) counts' ≡ map (λ entry. entry.0) counts → IsOrder born counts' graph
IsOrder-acquire born counts counts' graph id order counted listed =
    record {
      live = λ event live. order.live event (was (eqb event id) (ltb 0 (count_of counts event)) (count_of counts event) refl (subst (λ n. 0 < n) (counted event) live));
      kept = λ event there none. subst (λ n. 0 < n) (sym (counted event)) (still (eqb event id && ltb 0 (count_of counts event)) (count_of counts event) (order.kept event there none));
      below = order.below;
      latest = All-firsts (λ e. e < born + 1) counts counts' listed order.latest;
      bare = order.bare;
    }
  where
    was : (same some : Bool) (count : ℕ) → ltb 0 count ≡ some → 0 < cond (same && some) (count + 1) count → 0 < count
    was true true count is live = ltb-true 0 count is
    was true false count is live = live
    was false some count is live = live

    still : (more : Bool) (count : ℕ) → 0 < count → 0 < cond more (count + 1) count
    still true count live = omega arith
    still false count live = live

-- what passes the test stays held among what passes it
held-filter : (test : ℕ → Bool) (vertices : List ℕ) (event : ℕ) → is_held vertices event ≡ true → test event ≡ true →
    is_held (filter test vertices) event ≡ true
held-filter test [] event held passes = cc
held-filter test (vertex ∷ more) event held passes =
    by_test (eqb vertex event) (test vertex) refl refl held (λ rest. held-filter test more event rest passes)
  where
    by_test : (same kept : Bool) → eqb vertex event ≡ same → test vertex ≡ kept → (same || is_held more event) ≡ true →
        (is_held more event ≡ true → is_held (filter test more) event ≡ true) →
        is_held (cond kept (vertex ∷ filter test more) (filter test more)) event ≡ true
    by_test same true is _ held on =
        elim (or_cases same (is_held more event) held) [
          | inl here ↦ or_left (eqb vertex event) (is_held (filter test more) event) (is ∙ here)
          | inr rest ↦ or_right (eqb vertex event) (is_held (filter test more) event) (on rest)
        ]
    by_test true false is no_pass held on = absurd (never (sym (ap test (eqb-true vertex event is)) ∙ no_pass))
      where
        never : test event ≡ false → ⊥
        never fails = cc
    by_test false false is _ held on = on held

-- a held event that is live needs itself
needed-self : (counts pairs : List (ℕ × ℕ)) (vertices : List ℕ) (event : ℕ) → is_held vertices event ≡ true →
    0 < count_of counts event → is_needed counts pairs vertices event ≡ true
needed-self counts pairs [] event held live = cc
needed-self counts pairs (vertex ∷ more) event held live =
    elim (or_cases (eqb vertex event) (is_held more event) held) [
      | inl here ↦
          let same = eqb-true vertex event here in
          or_left (holds counts pairs event vertex) (is_needed counts pairs more event) (and_from (ltb 0 (count_of counts vertex)) (eqb vertex event || reach pairs vertex event) (subst (λ v. ltb 0 (count_of counts v) ≡ true) (sym same) (lt-ltb 0 (count_of counts event) live)) (or_left (eqb vertex event) (reach pairs vertex event) here))
      | inr rest ↦ or_right (holds counts pairs event vertex) (is_needed counts pairs more event) (needed-self counts pairs more event rest live)
    ]

-- an order from which is taken what no live event needs
pub IsOrder-collect : (born : ℕ) (counts counts' : List (ℕ × ℕ)) (graph graph' : GraphView) (id : ℕ) →
    IsOrder born counts graph →
    ((event : ℕ) → count_of counts' event ≡ cond (eqb event id) (count_of counts event - 1) (count_of counts event)) →
    ((n : ℕ) → All (λ entry. entry.0 < n) counts → All (λ entry. entry.0 < n) counts') →
    graph'.vertices ≡ filter (is_needed counts' graph.pairs graph.vertices) graph.vertices →
    ((event : ℕ) → is_held graph'.vertices event ≡ true → ins_of graph'.pairs event ≡ 0 → 0 < count_of counts' event) →
    graph'.bare ≡ [] → IsOrder born counts' graph'
IsOrder-collect born counts counts' graph graph' id order counted below vertices kept bare =
    record {
      live = λ event live. subst (λ l. is_held l event ≡ true) (sym vertices) (held event live (order.live event (was (eqb event id) (count_of counts event) (subst (λ n. 0 < n) (counted event) live))));
      kept = kept;
      below = subst (All (λ vertex. vertex < born + 1)) (sym vertices) (All-filter (is_needed counts' graph.pairs graph.vertices) (λ vertex. vertex < born + 1) graph.vertices order.below);
      latest = below (born + 1) order.latest;
      bare = bare;
    }
  where
    was : (same : Bool) (count : ℕ) → 0 < cond same (count - 1) count → 0 < count
    was true count live = omega arith
    was false count live = live

    held : (event : ℕ) → 0 < count_of counts' event → is_held graph.vertices event ≡ true →
        is_held (filter (is_needed counts' graph.pairs graph.vertices) graph.vertices) event ≡ true
    held event live there = held-filter (is_needed counts' graph.pairs graph.vertices) graph.vertices event there (needed-self counts' graph.pairs graph.vertices event there live)

-- a plan over the graph is one over what is agreed on
pub IsPlan-agreed : (born : ℕ) (counts : List (ℕ × ℕ)) (graph : GraphView) (pairs : List Pair) (plan : Plan) →
    batch.IsPlan counts graph pairs plan → IsPlan (agreed_by born counts graph.pairs) pairs plan
IsPlan-agreed born counts graph pairs plan is =
    record { known = is.known; agreeing = is.checked.agreeing; adds = is.checked.adds; outcomes = is.checked.outcomes }

-- so it is with the reasons why there is none
pub IsStop-agreed : (born : ℕ) (counts : List (ℕ × ℕ)) (graph : GraphView) (pairs : List Pair) (why : BatchStop) →
    batch.IsStop counts graph pairs why → IsStop (agreed_by born counts graph.pairs) pairs why
IsStop-agreed born counts graph pairs (stop.Unknown i) is = is
IsStop-agreed born counts graph pairs (stop.Contradicts i) is = record { known = is.known; opposed = is.opposed }
IsStop-agreed born counts graph pairs stop.NoMemory is = tt
