-- Where a search ends: what it has found is what is behind its event, and its steps are few.
use Rattle.std.proofs.Common.{◌≡◌, ℕ, ◌+◌, ◌*◌, ◌<◌, ◌≤◌, Bool, true, false, cond, eqb, ◌&&◌, ◌||◌, ◌⊎◌, List, [], ◌∷◌, ◌++◌, length, map, take, get_or, refl, sym, ap, ◌∙◌, subst, inl, inr, arith, length-append, mul-add, mul-le-mul_right, mul-one}
use native.Mathlib.Numerals.{unary_clauses}
use Rattle.std.specs.Prelude.{Option, Some, IsSome, is_some, unwrap_or, reverse}
use Rattle.std.specs.List.{All, AllByRecursion, IsDistinct, filter, sum_by}
use Rattle.std.proofs.lemmas.Bool.{and_parts, both_ways, eq-eqb, eqb-true, false_from_ne_true, or_cases, or_left, or_right}
use Rattle.std.proofs.lemmas.Cmp.{nat_eq_equiv}
use Rattle.std.proofs.lemmas.List.{get_or-append-add, get_or-map, length-map, length-reverse, take_all}
use Rattle.std.proofs.lemmas.List.Folds.{list_any_at}
use Rattle.std.proofs.lemmas.List.Elements.{All-append, recursion_from_All}
use Rattle.std.proofs.lemmas.List.Sums.{sum_by-cons}
use Rattle.std.proofs.lemmas.Map.Made.{length-le_from_is_member}
use Rattle.kr_order.specs.Prefix.{IsPrefix}
use Rattle.kr_order.specs.Order.{reach}
use Rattle.kr_order.proofs.PrefixLemmas.{IsPrefix-append, IsPrefix-refl, IsPrefix-length, IsPrefix-map, IsPrefix-trans, take_front}
use Rattle.kr_order.proofs.PathLemmas.{leads}
use Rattle.kr_order.proofs.OrderLemmas.{reach-path, reach_more, reach_pair}
use Rattle.dep_graph.specs.GraphView.{GraphView, IsGraph, is_held, event_at, outs_of}
use Rattle.reach.specs.Finds.{is_in}
use Rattle.reach.specs.Walk.{event_of, events_of, ArePlaced, AreSaid, LeadsTo, Meets, IsFoundBefore, IsFollowed, AreFollowed, IsUnderWay, IsKept, steps_of}
use Rattle.reach.proofs.MemberLemmas.{eqb-sym, is_in-all, is_in-map_from, is_in-more, times-distinct, All-reverse}
use Rattle.reach.proofs.CellLemmas.{event_at-some, IsDistinct-events, ArePlaced-one}

-- where all pairs are followed, each path from what was found ends at what was found before the goal
found_along : (newest : List (ℕ × ℕ)) (goal : ℕ) (found : List ℕ) → AllByRecursion (IsFollowed goal found found) newest → (x y : ℕ) → is_in found x ≡ true → leads newest x y ≡ true → IsFoundBefore goal found y
found_along [] goal found all x y there path = cc
found_along (pair ∷ older) goal found all x y there path =
    elim (or_cases (leads older x y) ((eqb x pair.0 || leads older x pair.0) && (eqb pair.1 y || leads older pair.1 y)) path) [
      | inl old ↦ found_along older goal found all.1 x y there old
      | inr over ↦
          let both = and_parts (eqb x pair.0 || leads older x pair.0) (eqb pair.1 y || leads older pair.1 y) over in
          let to = all.0.on (first (found_along older goal found all.1 x pair.0 there) both.0) in
          last to (found_along older goal found all.1 pair.1 y to.there) both.1
    ]
  where
    first : (leads older x pair.0 ≡ true → IsFoundBefore goal found pair.0) → (eqb x pair.0 || leads older x pair.0) ≡ true → is_in found pair.0 ≡ true
    first on holds =
        elim (or_cases (eqb x pair.0) (leads older x pair.0) holds) [
          | inl same ↦ subst (λ v. is_in found v ≡ true) (eqb-true x pair.0 same) there
          | inr more ↦ (on more).there
        ]

    last : IsFoundBefore goal found pair.1 → (leads older pair.1 y ≡ true → IsFoundBefore goal found y) → (eqb pair.1 y || leads older pair.1 y) ≡ true → IsFoundBefore goal found y
    last to on holds =
        elim (or_cases (eqb pair.1 y) (leads older pair.1 y) holds) [
          | inl same ↦ subst (λ v. IsFoundBefore goal found v) (eqb-true pair.1 y same) to
          | inr more ↦ on more
        ]

-- a search that has followed all pairs without the goal
pub never_reached : (order : List (ℕ × ℕ)) (a goal : ℕ) (found : List ℕ) → AreFollowed order goal found found → is_in found a ≡ true → reach order a goal ≡ false
never_reached order a goal found followed there =
    false_from_ne_true (reach order a goal) (λ path. both_ways (eqb goal goal) (found_along (reverse order) goal found (recursion_from_All (IsFollowed goal found found) (reverse order) (All-reverse (IsFollowed goal found found) order followed)) a goal there (reach-path order a goal path)).other (eq-eqb goal goal refl))

-- pairs that were followed stay so where more is found
pub AreFollowed-more : (pairs : List (ℕ × ℕ)) (goal : ℕ) (taken found new : List ℕ) → IsPrefix found new → AreFollowed pairs goal taken found → AreFollowed pairs goal taken new
AreFollowed-more pairs goal taken found new front followed k d below =
    record {
      on = λ is.
          let was = (followed k d below).on is in
          record { there = is_in-more found new (get_or pairs k d).1 front was.there; other = was.other };
    }

-- an event is held if it is one of the held ones
is_held-is_in : (vertices : List ℕ) (event : ℕ) → is_held vertices event ≡ is_in vertices event
is_held-is_in [] event = refl
is_held-is_in (v ∷ vs) event = ap (λ test. test || is_held vs event) (eqb-sym v event) ∙ ap (λ more. eqb event v || more) (is_held-is_in vs event)

-- at most as many cells were found as events are held
pub cells-le : (graph : GraphView) (cells : List ℕ) → IsGraph graph → ArePlaced graph.slots cells → length cells ≤ length graph.vertices
cells-le graph cells is placed =
    let events = events_of graph.slots cells in
    let few : length events ≤ length graph.vertices = length-le_from_is_member nat_eq_equiv events graph.vertices (IsDistinct-events graph.slots cells (record { one = is.one_cell }) placed) held in
    omega (arith, few, length-map cells (event_of graph.slots))
  where
    held : (event : ℕ) → is_in (events_of graph.slots cells) event ≡ true → is_in graph.vertices event ≡ true
    held event there =
        let given = is_in-map_from (event_of graph.slots) cells event there in
        let at = event_at-some graph.slots given.x (is_in-all cells given.x (λ x. IsSome (event_at graph.slots x)) placed.each given.there) in
        sym (is_held-is_in graph.vertices event) ∙ is.held given.x event (at ∙ ap Some given.gives)

-- different events have at most all pairs together
outs-le : (ps : List (ℕ × ℕ)) (events : List ℕ) → IsDistinct eqb events → sum_by (λ event. length (map (λ pair. pair.1) (filter (λ pair. eqb pair.0 event) ps))) events ≤ length ps
outs-le [] events distinct = none events
  where
    none : (vs : List ℕ) → sum_by (λ (event : ℕ). 0) vs ≤ 0
    none [] = omega arith
    none (v ∷ vs) = omega (arith, sum_by-cons (λ (event : ℕ). 0) v vs, none vs)
outs-le (p ∷ ps) events distinct =
    omega (arith, split events, times-distinct events p.0 distinct, outs-le ps events distinct)
  where
    outs : ℕ → ℕ
    outs event = length (map (λ pair. pair.1) (filter (λ pair. eqb pair.0 event) ps))

    more : ℕ → ℕ
    more event = length (map (λ pair. pair.1) (filter (λ pair. eqb pair.0 event) (p ∷ ps)))

    here : (event : ℕ) → more event ≡ cond (eqb p.0 event) 1 0 + outs event
    here event = by_test (eqb p.0 event)
      where
        by_test : (test : Bool) → length (map (λ pair. pair.1) (cond test (p ∷ filter (λ pair. eqb pair.0 event) ps) (filter (λ pair. eqb pair.0 event) ps))) ≡ cond test 1 0 + length (map (λ pair. pair.1) (filter (λ pair. eqb pair.0 event) ps))
        by_test true = omega arith
        by_test false = omega arith

    split : (vs : List ℕ) → sum_by more vs ≡ sum_by (λ v. cond (eqb p.0 v) 1 0) vs + sum_by outs vs
    split [] = refl
    split (v ∷ vs) = omega (arith, sum_by-cons more v vs, sum_by-cons (λ w. cond (eqb p.0 w) 1 0) v vs, sum_by-cons outs v vs, here v, split vs)

-- the steps for different events
pub steps_of-le : (graph : GraphView) (cells : List ℕ) → IsGraph graph → ArePlaced graph.slots cells → steps_of graph.pairs (events_of graph.slots cells) ≤ length cells + length graph.pairs
steps_of-le graph cells is placed =
    let events = events_of graph.slots cells in
    let outs : ℕ → ℕ = λ event. length (outs_of graph.pairs event) in
    omega (arith, split outs events, outs-le (reverse graph.pairs) events (IsDistinct-events graph.slots cells (record { one = is.one_cell }) placed), length-reverse graph.pairs, length-map cells (event_of graph.slots))
  where
    split : (outs : ℕ → ℕ) (vs : List ℕ) → sum_by (λ v. outs v + 1) vs ≡ sum_by outs vs + length vs
    split outs [] = refl
    split outs (v ∷ vs) = omega (arith, sum_by-cons (λ w. outs w + 1) v vs, sum_by-cons outs v vs, split outs vs)

-- the pairs in front and those behind them are said by all of them
said_front : (pairs extra : List (ℕ × ℕ)) → AreSaid (pairs ++ extra) pairs
said_front pairs extra k d below = reach_more pairs (pairs ++ extra) (get_or pairs k d).0 (get_or pairs k d).1 (IsPrefix-append pairs extra) (reach_pair pairs k d below)

said_behind : (pairs extra : List (ℕ × ℕ)) → AreSaid (pairs ++ extra) extra
said_behind pairs extra k d below =
    let at : get_or (pairs ++ extra) (length pairs + k) d ≡ get_or extra k d = get_or-append-add pairs extra k d in
    subst (λ (pair : ℕ × ℕ). reach (pairs ++ extra) pair.0 pair.1 ≡ true) at (reach_pair (pairs ++ extra) (length pairs + k) d (omega (arith, length-append pairs extra)))

-- a search begins with the cell of its event
pub IsUnderWay-first : (graph : GraphView) (extra : List (ℕ × ℕ)) (a goal cell : ℕ) → event_at graph.slots cell ≡ Some a → IsUnderWay graph extra a goal (cell ∷ []) 0
IsUnderWay-first graph extra a goal cell at =
    record {
      behind = record { each = λ event is. or_left (eqb a event) (reach (graph.pairs ++ extra) a event) (eqb-sym a event ∙ head event is) };
      start = or_left (eqb a (event_of graph.slots cell)) false (eq-eqb a (event_of graph.slots cell) (sym is_event));
      followed = λ k d below. record { on = λ never. cc };
      extra_followed = λ none. absurd (omega arith);
      placed = ArePlaced-one graph.slots cell (ap is_some at);
      within = omega arith;
      some = omega arith;
    }
  where
    is_event : event_of graph.slots cell ≡ a
    is_event = ap (λ o. unwrap_or o 0) at

    head : (event : ℕ) → is_in (events_of graph.slots (cell ∷ [])) event ≡ true → eqb event a ≡ true
    head event is =
        elim (or_cases (eqb event (event_of graph.slots cell)) false is) [
          | inl same ↦ eq-eqb event a (eqb-true event (event_of graph.slots cell) same ∙ is_event)
          | inr never ↦ cc
        ]

-- it goes on with what both kinds of pairs lead to
pub IsUnderWay-more : (graph : GraphView) (extra : List (ℕ × ℕ)) (a goal : ℕ) (cells mid new : List ℕ) (i n : ℕ) → IsUnderWay graph extra a goal cells i → LeadsTo graph.pairs (events_of graph.slots cells) (events_of graph.slots mid) → AreFollowed graph.pairs goal (events_of graph.slots mid) (events_of graph.slots mid) → IsPrefix cells mid → LeadsTo extra (events_of graph.slots mid) (events_of graph.slots new) → (length new ≡ length mid → AreFollowed extra goal (events_of graph.slots new) (events_of graph.slots new)) → IsPrefix mid new → ArePlaced graph.slots new → n ≡ length mid → IsUnderWay graph extra a goal new n
IsUnderWay-more graph extra a goal cells mid new i n was leads followed front extra_leads extra_followed extra_front placed size =
    let order = graph.pairs ++ extra in
    let events = events_of graph.slots mid in
    let ahead = IsPrefix-map (event_of graph.slots) mid new extra_front in
    let longer = IsPrefix-map (event_of graph.slots) cells new (IsPrefix-trans cells mid new front extra_front) in
    let taken : take n (events_of graph.slots new) ≡ events = ap (λ k. take k (events_of graph.slots new)) (size ∙ sym (length-map mid (event_of graph.slots))) ∙ take_front events (events_of graph.slots new) ahead in
    let le = IsPrefix-length mid new extra_front in
    record {
      behind = extra_leads.from order a (said_behind graph.pairs extra) (leads.from order a (said_front graph.pairs extra) was.behind);
      start = is_in-more (events_of graph.slots cells) (events_of graph.slots new) a longer was.start;
      followed = subst (λ es. AreFollowed graph.pairs goal es (events_of graph.slots new)) (sym taken) (AreFollowed-more graph.pairs goal events events (events_of graph.slots new) ahead followed);
      extra_followed = λ all. extra_followed (omega (arith, le, size));
      placed = placed;
      within = omega (arith, le, size);
      some = omega (arith, le, IsPrefix-length cells mid front, was.some);
    }

-- the graph's pairs lead on to the goal
pub reach-met : (graph : GraphView) (extra : List (ℕ × ℕ)) (a goal : ℕ) (cells : List ℕ) (i : ℕ) → IsUnderWay graph extra a goal cells i → Meets graph.pairs (events_of graph.slots cells) goal → reach (graph.pairs ++ extra) a goal ≡ true
reach-met graph extra a goal cells i was met = met.from (graph.pairs ++ extra) a (said_front graph.pairs extra) was.behind

-- or the extra ones behind them do
pub reach-met_extra : (graph : GraphView) (extra : List (ℕ × ℕ)) (a goal : ℕ) (cells mid : List ℕ) (i : ℕ) → IsUnderWay graph extra a goal cells i → LeadsTo graph.pairs (events_of graph.slots cells) (events_of graph.slots mid) → Meets extra (events_of graph.slots mid) goal → reach (graph.pairs ++ extra) a goal ≡ true
reach-met_extra graph extra a goal cells mid i was leads met =
    met.from (graph.pairs ++ extra) a (said_behind graph.pairs extra) (leads.from (graph.pairs ++ extra) a (said_front graph.pairs extra) was.behind)

-- or no pair is left
pub reach-ended : (graph : GraphView) (extra : List (ℕ × ℕ)) (a goal : ℕ) (cells : List ℕ) (i : ℕ) → length cells ≤ i → IsUnderWay graph extra a goal cells i → reach (graph.pairs ++ extra) a goal ≡ false
reach-ended graph extra a goal cells i all was =
    let events = events_of graph.slots cells in
    let whole : take i events ≡ events = take_all i events (omega (arith, length-map cells (event_of graph.slots))) in
    let followed : AreFollowed graph.pairs goal events events = subst (λ es. AreFollowed graph.pairs goal es events) whole was.followed in
    never_reached (graph.pairs ++ extra) a goal events (All-append (IsFollowed goal events events) graph.pairs extra followed (was.extra_followed all)) was.start

-- the steps of a search that has looked at so many extra pairs for each event that it found, at the most
pub steps_bound : (graph : GraphView) (cells : List ℕ) (from to n extra : ℕ) → IsGraph graph → ArePlaced graph.slots cells → to ≤ from + steps_of graph.pairs (events_of graph.slots cells) + n * extra → n ≤ length cells → to ≤ from + (length graph.vertices * (1 + extra) + length graph.pairs)
steps_bound graph cells from to n extra is placed taken few =
    let held = length graph.vertices in
    let le = cells-le graph cells is placed in
    let product : n * extra ≤ held * extra = mul-le-mul_right extra (omega arith) in
    omega (arith, le, product, steps_of-le graph cells is placed, mul-add held 1 extra, mul-one held)

-- no path leads to an event to which no pair leads
pub reach-source : (order : List (ℕ × ℕ)) (a goal : ℕ) → All (λ pair. eqb pair.1 goal ≡ false) order → reach order a goal ≡ false
reach-source order a goal none = never_reached order a goal (a ∷ seconds) followed (or_left (eqb a a) (is_in seconds a) (eq-eqb a a refl))
  where
    seconds : List ℕ
    seconds = map (λ pair. pair.1) order

    behind : (d k : ℕ) → get_or (a ∷ seconds) (k + 1) d ≡ get_or seconds k d
    behind d k = simp unary_clauses refl

    followed : AreFollowed order goal (a ∷ seconds) (a ∷ seconds)
    followed k d below =
        record {
          on = λ is.
              record {
                there = list_any_at (eqb (get_or order k d).1) (a ∷ seconds) (k + 1) d.1 (omega (arith, below, length-map order (λ (pair : ℕ × ℕ). pair.1))) (eq-eqb (get_or order k d).1 (get_or (a ∷ seconds) (k + 1) d.1) (sym (behind d.1 k ∙ get_or-map (λ (pair : ℕ × ℕ). pair.1) order k d d.1 below)));
                other = none k d below;
              };
        }

-- a search that ended has found all that the graph's pairs lead to
pub IsKept-ended : (graph : GraphView) (extra : List (ℕ × ℕ)) (a goal : ℕ) (cells : List ℕ) (i : ℕ) → length cells ≤ i → IsUnderWay graph extra a goal cells i → IsKept graph (graph.pairs ++ extra) a cells
IsKept-ended graph extra a goal cells i all was =
    let events = events_of graph.slots cells in
    let whole : take i events ≡ events = take_all i events (omega (arith, length-map cells (event_of graph.slots))) in
    let followed : AreFollowed graph.pairs goal events events = subst (λ es. AreFollowed graph.pairs goal es events) whole was.followed in
    record {
      behind = was.behind;
      start = was.start;
      closed = λ k d below. record { on = λ is. ((followed k d below).on is).there };
      placed = was.placed;
    }

-- it stays so where the order has more pairs
pub IsKept-more : (graph : GraphView) (order longer : List (ℕ × ℕ)) (a : ℕ) (cells : List ℕ) → IsPrefix order longer → IsKept graph order a cells → IsKept graph longer a cells
IsKept-more graph order longer a cells front was =
    record {
      behind = record { each = λ event is. by_cases event (or_cases (eqb a event) (reach order a event) (was.behind.each event is)) };
      start = was.start;
      closed = was.closed;
      placed = was.placed;
    }
  where
    by_cases : (event : ℕ) → (eqb a event ≡ true) ⊎ (reach order a event ≡ true) → (eqb a event || reach longer a event) ≡ true
    by_cases event (inl same) = or_left (eqb a event) (reach longer a event) same
    by_cases event (inr path) = or_right (eqb a event) (reach longer a event) (reach_more order longer a event front path)

-- an event that was found, and is another one, is behind a
pub reach-kept : (graph : GraphView) (order : List (ℕ × ℕ)) (a goal : ℕ) (cells : List ℕ) → IsKept graph order a cells → is_in (events_of graph.slots cells) goal ≡ true → eqb a goal ≡ false → reach order a goal ≡ true
reach-kept graph order a goal cells was there other =
    ap (λ test. test || reach order a goal) (sym other) ∙ was.behind.each goal there

-- so is what an extra pair leads to
pub reach-kept_extra : (graph : GraphView) (extra : List (ℕ × ℕ)) (a goal : ℕ) (cells : List ℕ) → IsKept graph (graph.pairs ++ extra) a cells → Meets extra (events_of graph.slots cells) goal → reach (graph.pairs ++ extra) a goal ≡ true
reach-kept_extra graph extra a goal cells was met = met.from (graph.pairs ++ extra) a (said_behind graph.pairs extra) was.behind

-- there is a cell where an event was found
pub some_found : (slots : List (Option ℕ)) (a : ℕ) (cells : List ℕ) → is_in (events_of slots cells) a ≡ true → 0 < length cells
some_found slots a [] never = cc
some_found slots a (c ∷ cs) _ = omega arith

-- the search can be gone on with, for a goal that was not found, once the extra pairs were followed
pub IsUnderWay-kept : (graph : GraphView) (extra : List (ℕ × ℕ)) (a goal : ℕ) (cells new : List ℕ) (n : ℕ) → IsKept graph (graph.pairs ++ extra) a cells → is_in (events_of graph.slots cells) goal ≡ false → LeadsTo extra (events_of graph.slots cells) (events_of graph.slots new) → (length new ≡ length cells → AreFollowed extra goal (events_of graph.slots new) (events_of graph.slots new)) → IsPrefix cells new → ArePlaced graph.slots new → n ≡ length cells → IsUnderWay graph extra a goal new n
IsUnderWay-kept graph extra a goal cells new n was out extra_leads extra_followed front placed size =
    IsUnderWay-more graph extra a goal cells cells new 0 n begun (record { from = λ order b said behind. behind }) followed (IsPrefix-refl cells) extra_leads extra_followed front placed size
  where
    events : List ℕ
    events = events_of graph.slots cells

    other : (event : ℕ) → is_in events event ≡ true → eqb event goal ≡ false
    other event there = false_from_ne_true (eqb event goal) (λ same. both_ways (is_in events goal) out (subst (λ e. is_in events e ≡ true) (eqb-true event goal same) there))

    followed : AreFollowed graph.pairs goal events events
    followed k d below =
        record {
          on = λ is.
              let there = (was.closed k d below).on is in
              record { there = there; other = other (get_or graph.pairs k d).1 there };
        }

    begun : IsUnderWay graph extra a goal cells 0
    begun =
        record {
          behind = was.behind;
          start = was.start;
          followed = λ k d below. record { on = λ never. cc };
          extra_followed = λ none. absurd (omega (arith, none, some_found graph.slots a cells was.start));
          placed = was.placed;
          within = omega arith;
          some = some_found graph.slots a cells was.start;
        }
