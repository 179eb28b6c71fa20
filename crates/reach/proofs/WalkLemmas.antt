-- What a search has found, where it ends, and how many steps it takes.
use Rattle.std.proofs.Common.{◌≡◌, ◌⊎◌, ℕ, ◌+◌, ◌-◌, ◌<◌, ◌≤◌, Bool, true, false, cond, eqb, ◌&&◌, ◌||◌, List, [], ◌∷◌, ◌++◌, length, map, take, get_or, zero, suc, refl, sym, ap, ◌∙◌, subst, inl, inr, arith, add_assoc}
use Rattle.std.specs.Prelude.{Option, Some, is_some, reverse}
use Rattle.std.specs.List.{All, AllByRecursion, filter}
use Rattle.std.proofs.lemmas.Bool.{and_parts, both_ways, cond-false, cond-true, eq-eqb, eqb-true, ne_eqb, or_cases, or_left, or_right}
use Rattle.std.proofs.lemmas.List.{append-nil, get_or-map, get_or-reverse, length-append, nil_from_length, length-map, length-reverse, take-append-le, take_more}
use Rattle.std.proofs.lemmas.List.Elements.{All-more, recursion_from_All}
use Rattle.std.proofs.lemmas.List.Sums.{sum_by_push}
use Rattle.kr_order.specs.Prefix.{IsPrefix}
use Rattle.kr_order.specs.Order.{reach}
use Rattle.kr_order.proofs.PrefixLemmas.{IsPrefix-trans, IsPrefix-length, IsPrefix-map}
use Rattle.kr_order.proofs.OrderLemmas.{reach-trans}
use Rattle.dep_graph.specs.GraphView.{event_at, outs_of}
use Rattle.reach.specs.Finds.{is_in, with, with_all}
use Rattle.reach.specs.Walk.{event_of, events_of, ArePlaced, AreSaid, LeadsTo, Meets, IsFoundBefore, IsFollowed, AreFollowed, led_by, steps_of}
use Rattle.reach.proofs.MemberLemmas.{eqb-sym, is_in-more, is_in-push_cases, is_in-at, IsPrefix-with, IsPrefix-with_all, is_in-with_same, is_in-with_cases, is_in-with_all_new, is_in-with_all_cases, All-reverse}
use Rattle.reach.proofs.CellLemmas.{StandOnce, events_of-with, ArePlaced-with}

-- a pair of the order leads to each successor
outs_said : (order pairs : List (ℕ × ℕ)) (x y : ℕ) → AreSaid order pairs → is_in (outs_of pairs x) y ≡ true → reach order x y ≡ true
outs_said order pairs x y said there = by_recursion (reverse pairs) (recursion_from_All (λ pair. reach order pair.0 pair.1 ≡ true) (reverse pairs) (All-reverse (λ pair. reach order pair.0 pair.1 ≡ true) pairs said)) there
  where
    by_recursion : (ps : List (ℕ × ℕ)) → AllByRecursion (λ pair. reach order pair.0 pair.1 ≡ true) ps → is_in (map (λ pair. pair.1) (filter (λ pair. eqb pair.0 x) ps)) y ≡ true → reach order x y ≡ true
    by_recursion [] _ never = cc
    by_recursion (pair ∷ ps) all is = by_test (by_recursion ps all.1) (eqb pair.0 x) refl is
      where
        by_test : (is_in (map (λ p. p.1) (filter (λ p. eqb p.0 x) ps)) y ≡ true → reach order x y ≡ true) → (test : Bool) → eqb pair.0 x ≡ test → is_in (map (λ p. p.1) (cond test (pair ∷ filter (λ p. eqb p.0 x) ps) (filter (λ p. eqb p.0 x) ps))) y ≡ true → reach order x y ≡ true
        by_test older false _ rest = older rest
        by_test older true first rest =
            elim (or_cases (eqb y pair.1) (is_in (map (λ p. p.1) (filter (λ p. eqb p.0 x) ps)) y) rest) [
              | inl same ↦ subst (λ v. reach order x v ≡ true) (sym (eqb-true y pair.1 same)) (subst (λ v. reach order v pair.1 ≡ true) (eqb-true pair.0 x first) all.0)
              | inr more ↦ older more
            ]

-- what a pair of the order leads to from what is behind a is behind a
pub reach_on : (order : List (ℕ × ℕ)) (a x y : ℕ) → (eqb a x || reach order a x) ≡ true → reach order x y ≡ true → reach order a y ≡ true
reach_on order a x y from on =
    elim (or_cases (eqb a x) (reach order a x) from) [
      | inl same ↦ subst (λ v. reach order v y ≡ true) (sym (eqb-true a x same)) on
      | inr path ↦ reach-trans order a x y path on
    ]

-- the successors of an event that was found
pub LeadsTo-outs : (pairs : List (ℕ × ℕ)) (old found : List ℕ) (x : ℕ) → is_in found x ≡ true → LeadsTo pairs old found → LeadsTo pairs old (with_all found (outs_of pairs x))
LeadsTo-outs pairs old found x there so_far =
    record {
      from = λ order a said behind.
          let now = so_far.from order a said behind in
          record {
            each = λ event is.
                elim (is_in-with_all_cases found (outs_of pairs x) event is) [
                  | inl was ↦ now.each event was
                  | inr new ↦ or_right (eqb a event) (reach order a event) (reach_on order a x event (now.each x there) (outs_said order pairs x event said new))
                ];
          };
    }

-- a successor that is the goal
pub Meets-outs : (pairs : List (ℕ × ℕ)) (old found : List ℕ) (x goal : ℕ) → is_in found x ≡ true → LeadsTo pairs old found → is_in (outs_of pairs x) goal ≡ true → Meets pairs old goal
Meets-outs pairs old found x goal there so_far met =
    record {
      from = λ order a said behind. reach_on order a x goal ((so_far.from order a said behind).each x there) (outs_said order pairs x goal said met);
    }

-- the second event of a pair is a successor of the first
out_there : (pairs : List (ℕ × ℕ)) (k : ℕ) (d : ℕ × ℕ) → k < length pairs → is_in (outs_of pairs (get_or pairs k d).0) (get_or pairs k d).1 ≡ true
out_there pairs k d below =
    let j = length pairs - 1 - k in
    let size = length-reverse pairs in
    let same : length pairs - 1 - j ≡ k = omega arith in
    let at : get_or (reverse pairs) j d ≡ get_or pairs k d = get_or-reverse pairs j d (omega arith) ∙ ap (λ n. get_or pairs n d) same in
    subst (λ pair. is_in (outs_of pairs pair.0) pair.1 ≡ true) at (by_recursion (reverse pairs) j (omega arith))
  where
    more : (p : ℕ × ℕ) (ps : List (ℕ × ℕ)) (x y : ℕ) → is_in (map (λ pair. pair.1) (filter (λ pair. eqb pair.0 x) ps)) y ≡ true → is_in (map (λ pair. pair.1) (filter (λ pair. eqb pair.0 x) (p ∷ ps))) y ≡ true
    more p ps x y there = by_test (eqb p.0 x)
      where
        by_test : (test : Bool) → is_in (map (λ pair. pair.1) (cond test (p ∷ filter (λ pair. eqb pair.0 x) ps) (filter (λ pair. eqb pair.0 x) ps))) y ≡ true
        by_test true = or_right (eqb y p.1) (is_in (map (λ pair. pair.1) (filter (λ pair. eqb pair.0 x) ps)) y) there
        by_test false = there

    by_recursion : (ps : List (ℕ × ℕ)) (j : ℕ) → j < length ps → is_in (map (λ pair. pair.1) (filter (λ pair. eqb pair.0 (get_or ps j d).0) ps)) (get_or ps j d).1 ≡ true
    by_recursion [] j below = absurd (omega arith)
    by_recursion (p ∷ ps) zero below = head (eqb p.0 p.0) (eq-eqb p.0 p.0 refl)
      where
        head : (test : Bool) → test ≡ true → is_in (map (λ pair. pair.1) (cond test (p ∷ filter (λ pair. eqb pair.0 p.0) ps) (filter (λ pair. eqb pair.0 p.0) ps))) p.1 ≡ true
        head true _ = or_left (eqb p.1 p.1) (is_in (map (λ pair. pair.1) (filter (λ pair. eqb pair.0 p.0) ps)) p.1) (eq-eqb p.1 p.1 refl)
        head false never = cc
    by_recursion (p ∷ ps) (suc j) below = more p ps (get_or ps j d).0 (get_or ps j d).1 (by_recursion ps j (omega arith))

-- the pairs of an event more were followed
pub AreFollowed-outs : (pairs : List (ℕ × ℕ)) (goal : ℕ) (found : List ℕ) (i d : ℕ) → i < length found → is_in (outs_of pairs (get_or found i d)) goal ≡ false → AreFollowed pairs goal (take i found) found → AreFollowed pairs goal (take (i + 1) (with_all found (outs_of pairs (get_or found i d)))) (with_all found (outs_of pairs (get_or found i d)))
AreFollowed-outs pairs goal found i d below unmet followed k e in_pairs =
    record { on = λ is. by_cases (is_in-push_cases (take i found) x pair.0 (subst (λ l. is_in l pair.0 ≡ true) taken is)) }
  where
    x : ℕ
    x = get_or found i d

    new : List ℕ
    new = with_all found (outs_of pairs x)

    pair : ℕ × ℕ
    pair = get_or pairs k e

    front : IsPrefix found new
    front = IsPrefix-with_all found (outs_of pairs x)

    taken : take (i + 1) new ≡ take i found ++ x ∷ []
    taken = ap (take (i + 1)) front.is ∙ take-append-le (i + 1) found front.more (omega arith) ∙ take_more found i d below

    there : is_in (outs_of pairs pair.0) pair.1 ≡ true
    there = out_there pairs k e in_pairs

    by_cases : (is_in (take i found) pair.0 ≡ true) ⊎ (pair.0 ≡ x) → IsFoundBefore goal new pair.1
    by_cases (inl before) =
        let was = (followed k e in_pairs).on before in
        record { there = is_in-more found new pair.1 front was.there; other = was.other }
    by_cases (inr same) =
        let out : is_in (outs_of pairs x) pair.1 ≡ true = subst (λ v. is_in (outs_of pairs v) pair.1 ≡ true) same there in
        record {
          there = is_in-with_all_new found (outs_of pairs x) pair.1 out;
          other = ne_eqb pair.1 goal (λ is. both_ways (is_in (outs_of pairs x) goal) unmet (subst (λ v. is_in (outs_of pairs x) v ≡ true) is out));
        }

-- a search that looks at an event's successors: those that are left do what all do
pub record Follows (slots : List (Option ℕ)) (outs : List ℕ) (goal : ℕ) (old now : List ℕ) (rest : List (ℕ × ℕ)) : Type 0 where
  pub value : is_in (map (λ out. out.1) rest) goal ≡ is_in outs goal
  pub found : with_all (events_of slots now) (map (λ out. out.1) rest) ≡ with_all (events_of slots old) outs
  pub front : IsPrefix old now
  pub placed : ArePlaced slots now
  pub cells : All (λ out. event_at slots out.0 ≡ Some out.1) rest
  pub size : length rest ≤ length outs

-- after one that is not the goal
pub Follows-more : (slots : List (Option ℕ)) (outs : List ℕ) (goal : ℕ) (old now : List ℕ) (cell event : ℕ) (rest : List (ℕ × ℕ)) → StandOnce slots → eqb event goal ≡ false → Follows slots outs goal old now ((cell, event) ∷ rest) → Follows slots outs goal old (with now cell) rest
Follows-more slots outs goal old now cell event rest once other was =
    let at : event_at slots cell ≡ Some event = was.cells 0 (0, 0) (omega arith) in
    record {
      value = ap (λ test. test || is_in (map (λ out. out.1) rest) goal) (sym (eqb-sym goal event ∙ other)) ∙ was.value;
      found = ap (λ events. with_all events (map (λ out. out.1) rest)) (events_of-with slots now cell event once was.placed at) ∙ was.found;
      front = IsPrefix-trans old now (with now cell) was.front (IsPrefix-with now cell);
      placed = ArePlaced-with slots now cell was.placed (ap is_some at);
      cells = λ k d below. was.cells (suc k) d (omega arith);
      size = omega (arith, was.size);
    }

-- the search has taken up the first i events that it found, over these pairs, from the old ones on
pub record IsSearched (pairs : List (ℕ × ℕ)) (slots : List (Option ℕ)) (goal : ℕ) (old now : List ℕ) (i : ℕ) : Type 0 where
  pub leads : LeadsTo pairs (events_of slots old) (events_of slots now)
  pub followed : AreFollowed pairs goal (take i (events_of slots now)) (events_of slots now)
  pub front : IsPrefix old now
  pub placed : ArePlaced slots now
  pub within : i ≤ length now

-- the event in the cell at an index is the event at this index
pub event_at-index : (slots : List (Option ℕ)) (cells : List ℕ) (i d : ℕ) → i < length cells → get_or (events_of slots cells) i d ≡ event_of slots (get_or cells i d)
event_at-index slots cells i d below = get_or-map (event_of slots) cells i d d below

-- an event more is taken up
pub IsSearched-more : (pairs : List (ℕ × ℕ)) (slots : List (Option ℕ)) (goal : ℕ) (old now new : List ℕ) (i cell : ℕ) → i < length now → cell ≡ get_or now i 0 → is_in (outs_of pairs (event_of slots cell)) goal ≡ false → events_of slots new ≡ with_all (events_of slots now) (outs_of pairs (event_of slots cell)) → IsPrefix now new → ArePlaced slots new → IsSearched pairs slots goal old now i → IsSearched pairs slots goal old new (i + 1)
IsSearched-more pairs slots goal old now new i cell below at unmet found front placed was =
    let events = events_of slots now in
    let in_events : i < length events = omega (arith, length-map now (event_of slots)) in
    let same : get_or events i 0 ≡ event_of slots cell = event_at-index slots now i 0 below ∙ ap (event_of slots) (sym at) in
    let unmet_at : is_in (outs_of pairs (get_or events i 0)) goal ≡ false = ap (λ e. is_in (outs_of pairs e) goal) same ∙ unmet in
    let found_at : events_of slots new ≡ with_all events (outs_of pairs (get_or events i 0)) = found ∙ ap (λ e. with_all events (outs_of pairs e)) (sym same) in
    record {
      leads = subst (λ es. LeadsTo pairs (events_of slots old) es) (sym found_at) (LeadsTo-outs pairs (events_of slots old) events (get_or events i 0) (is_in-at events i 0 in_events) was.leads);
      followed = subst (λ es. AreFollowed pairs goal (take (i + 1) es) es) (sym found_at) (AreFollowed-outs pairs goal events i 0 in_events unmet_at was.followed);
      front = IsPrefix-trans old now new was.front front;
      placed = placed;
      within = omega (arith, IsPrefix-length now new front, was.within);
    }

-- the event leads to the goal
pub Meets-at : (pairs : List (ℕ × ℕ)) (slots : List (Option ℕ)) (goal : ℕ) (old now : List ℕ) (i cell : ℕ) → i < length now → cell ≡ get_or now i 0 → is_in (outs_of pairs (event_of slots cell)) goal ≡ true → IsSearched pairs slots goal old now i → Meets pairs (events_of slots old) goal
Meets-at pairs slots goal old now i cell below at met was =
    let events = events_of slots now in
    let in_events : i < length events = omega (arith, length-map now (event_of slots)) in
    let same : get_or events i 0 ≡ event_of slots cell = event_at-index slots now i 0 below ∙ ap (event_of slots) (sym at) in
    Meets-outs pairs (events_of slots old) events (event_of slots cell) goal (subst (λ e. is_in events e ≡ true) same (is_in-at events i 0 in_events)) was.leads met

-- the steps for an event more
pub steps_of-more : (pairs : List (ℕ × ℕ)) (slots : List (Option ℕ)) (now new : List ℕ) (i cell : ℕ) → i < length now → cell ≡ get_or now i 0 → IsPrefix now new → steps_of pairs (take (i + 1) (events_of slots new)) ≡ steps_of pairs (take i (events_of slots now)) + length (outs_of pairs (event_of slots cell)) + 1
steps_of-more pairs slots now new i cell below at front =
    let events = events_of slots now in
    let in_events : i < length events = omega (arith, length-map now (event_of slots)) in
    let same : get_or events i 0 ≡ event_of slots cell = event_at-index slots now i 0 below ∙ ap (event_of slots) (sym at) in
    let ahead = IsPrefix-map (event_of slots) now new front in
    let taken : take (i + 1) (events_of slots new) ≡ take i events ++ get_or events i 0 ∷ [] = ap (take (i + 1)) ahead.is ∙ take-append-le (i + 1) events ahead.more (omega arith) ∙ take_more events i 0 in_events in
    let cost : ℕ → ℕ = λ event. length (outs_of pairs event) + 1 in
    ap (steps_of pairs) taken ∙ sum_by_push cost (take i events) (get_or events i 0) ∙ ap (λ e. steps_of pairs (take i events) + cost e) same ∙ sym (add_assoc (steps_of pairs (take i events)) (length (outs_of pairs (event_of slots cell))) 1)

-- a pair is followed: what it leads to is the goal, or goes with the events that were found
pub led_by-out : (found : List ℕ) (pair : ℕ × ℕ) → is_in found pair.0 ≡ false → found ≡ led_by pair found
led_by-out found pair out = sym (cond-false (is_in found pair.0) (with found pair.1) found out)

pub led_by-in : (found : List ℕ) (pair : ℕ × ℕ) → is_in found pair.0 ≡ true → with found pair.1 ≡ led_by pair found
led_by-in found pair there = sym (cond-true (is_in found pair.0) (with found pair.1) found there)

-- the search has followed the first i of these pairs, from the old cells on
pub record IsLedOn (pairs : List (ℕ × ℕ)) (slots : List (Option ℕ)) (goal : ℕ) (old now : List ℕ) (i : ℕ) : Type 0 where
  pub leads : LeadsTo pairs (events_of slots old) (events_of slots now)
  pub followed : length now ≡ length old → AreFollowed (take i pairs) goal (events_of slots now) (events_of slots now)
  pub front : IsPrefix old now
  pub placed : ArePlaced slots now

-- what a pair leads to
LeadsTo-pair : (pairs : List (ℕ × ℕ)) (old found : List ℕ) (i : ℕ) (d : ℕ × ℕ) → i < length pairs → LeadsTo pairs old found → LeadsTo pairs old (led_by (get_or pairs i d) found)
LeadsTo-pair pairs old found i d below so_far = by_test (is_in found (get_or pairs i d).0) refl
  where
    pair : ℕ × ℕ
    pair = get_or pairs i d

    by_test : (test : Bool) → is_in found (get_or pairs i d).0 ≡ test → LeadsTo pairs old (cond test (with found (get_or pairs i d).1) found)
    by_test false _ = so_far
    by_test true there =
        record {
          from = λ order a said behind.
              let now = so_far.from order a said behind in
              record {
                each = λ event is.
                    elim (is_in-with_cases found (get_or pairs i d).1 event is) [
                      | inl was ↦ now.each event was
                      | inr same ↦ or_right (eqb a event) (reach order a event) (reach_on order a (get_or pairs i d).0 event (now.each (get_or pairs i d).0 there) (subst (λ v. reach order (get_or pairs i d).0 v ≡ true) (sym same) (said i d below)))
                    ];
              };
        }

-- a pair more
pub IsLedOn-more : (pairs : List (ℕ × ℕ)) (slots : List (Option ℕ)) (goal : ℕ) (old now new : List ℕ) (i : ℕ) (d : ℕ × ℕ) → i < length pairs → (is_in (events_of slots now) (get_or pairs i d).0 && eqb (get_or pairs i d).1 goal) ≡ false → events_of slots new ≡ led_by (get_or pairs i d) (events_of slots now) → IsPrefix now new → ArePlaced slots new → IsLedOn pairs slots goal old now i → IsLedOn pairs slots goal old new (i + 1)
IsLedOn-more pairs slots goal old now new i d below unmet found front placed was =
    record {
      leads = subst (λ es. LeadsTo pairs (events_of slots old) es) (sym found) (LeadsTo-pair pairs (events_of slots old) (events_of slots now) i d below was.leads);
      followed = λ size. subst (λ cells. AreFollowed (take (i + 1) pairs) goal (events_of slots cells) (events_of slots cells)) (sym (same size)) (followed size);
      front = IsPrefix-trans old now new was.front front;
      placed = placed;
    }
  where
    pair : ℕ × ℕ
    pair = get_or pairs i d

    same : length new ≡ length old → new ≡ now
    same size =
        let le = IsPrefix-length old now was.front in
        let none : length front.more ≡ 0 = omega (arith, IsPrefix-length old now was.front, size, ap (λ (l : List ℕ). length l) front.is, length-append now front.more) in
        front.is ∙ ap (λ more. now ++ more) (nil_from_length front.more none) ∙ append-nil now

    last : length new ≡ length old → is_in (events_of slots now) (get_or pairs i d).0 ≡ true → IsFoundBefore goal (events_of slots now) (get_or pairs i d).1
    last size there =
        let stays : events_of slots now ≡ with (events_of slots now) (get_or pairs i d).1 = ap (events_of slots) (sym (same size)) ∙ found ∙ cond-true (is_in (events_of slots now) (get_or pairs i d).0) (with (events_of slots now) (get_or pairs i d).1) (events_of slots now) there in
        record {
          there = subst (λ es. is_in es (get_or pairs i d).1 ≡ true) (sym stays) (is_in-with_same (events_of slots now) (get_or pairs i d).1);
          other = ap (λ test. test && eqb (get_or pairs i d).1 goal) (sym there) ∙ unmet;
        }

    followed : length new ≡ length old → AreFollowed (take (i + 1) pairs) goal (events_of slots now) (events_of slots now)
    followed size =
        let before : length now ≡ length old = ap (λ (l : List ℕ). length l) (sym (same size)) ∙ size in
        All-more (IsFollowed goal (events_of slots now) (events_of slots now)) pairs i d below (was.followed before) (record { on = last size })

-- a pair that leads to the goal
pub Meets-pair : (pairs : List (ℕ × ℕ)) (slots : List (Option ℕ)) (goal : ℕ) (old now : List ℕ) (i : ℕ) (d : ℕ × ℕ) → i < length pairs → (is_in (events_of slots now) (get_or pairs i d).0 && eqb (get_or pairs i d).1 goal) ≡ true → IsLedOn pairs slots goal old now i → Meets pairs (events_of slots old) goal
Meets-pair pairs slots goal old now i d below met was =
    let pair = get_or pairs i d in
    let both = and_parts (is_in (events_of slots now) pair.0) (eqb pair.1 goal) met in
    record {
      from = λ order a said behind.
          reach_on order a pair.0 goal ((was.leads.from order a said behind).each pair.0 both.0) (subst (λ v. reach order pair.0 v ≡ true) (eqb-true pair.1 goal both.1) (said i d below));
    }
