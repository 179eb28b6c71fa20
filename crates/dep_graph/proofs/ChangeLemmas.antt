-- What always holds of a graph holds with one more event or pair, and with one fewer.
use Rattle.std.proofs.Common.{◌≡◌, ℕ, ◌+◌, ◌-◌, ◌<◌, ◌≤◌, Bool, true, false, cond, eqb, ◌||◌, List, [], ◌∷◌, ◌++◌, length, get_or, refl, sym, ap, ◌∙◌, subst, inl, inr, arith, length-append, add-zero}
use Rattle.std.specs.Prelude.{Option, None, Some, IsSome, map, reverse}
use Rattle.std.specs.List.{All, AllPairs, AllByRecursion, filter, cons_option}
use Rattle.std.specs.Option.{option_map}
use Rattle.std.proofs.lemmas.Option.{none-some, same_Some}
use Rattle.std.proofs.lemmas.Bool.{both_ways, cases_eq, eq-eqb, eqb-true, eqb-false, ne_eqb, false_from_ne_true, or_from}
use Rattle.std.proofs.lemmas.List.{append-nil, append_assoc, get_or_at, get_or-map, length-map, map-append, nil_from_length}
use Rattle.std.proofs.lemmas.List.Folds.{list_any_at, list_any-append}
use Rattle.std.proofs.lemmas.List.Elements.{filter-append, filter_passes, All-filter, All-map, All-push, All-append, All-from_recursion, recursion_from_All}
use Rattle.std.proofs.lemmas.List.Quantifiers.{all_pairs_push}
use Rattle.kr_order.specs.Order.{reach, IsAcyclic}
use Rattle.kr_order.proofs.OrderLemmas.{IsAcyclic-push, reach_pair}
use Rattle.slab.specs.Slab.{Slab, get, with_value, Updates}
use Rattle.dep_graph.specs.declared.outs.Link.{Link}
use Rattle.dep_graph.specs.declared.graph.Cell.{Cell}
use Rattle.dep_graph.specs.Table.{number_of, entries_without}
use Rattle.dep_graph.specs.GraphView.{is_held, event_at, has_pair, outs_of, ins_of, pairs_without, bared_by, JoinsHeld, CanAdd}
use Rattle.dep_graph.specs.Links.{pair_of, pairs_in, newest_in, newest_of, AreChained, slot_of, slots_of, IsBetween, JoinsCells, AreLinked, IsSound, HasRoom, IsTakenOut, IsDropped}
use Rattle.dep_graph.proofs.HeldLemmas.{events_of, is_held-none, is_held-number, key_of, held_at, is_held-more, JoinsHeld-more, is_held-without, events_of-without, number_of-push, number_of-without_other, number_of-without_same}
use Rattle.dep_graph.proofs.ChainLemmas.{All-reverse}
use Rattle.dep_graph.proofs.CellLemmas.{holds, event_at-cell, event_at-slots}
use Rattle.dep_graph.proofs.PairLemmas.{differs, ins_of-none, ins_of-cons, outs_of-cons, All-between, distinct-between, acyclic-between, gone-between, others-between, ins-between, ins_of-without, pairs_without-none}
use Rattle.dep_graph.proofs.LinkLemmas.{cells_with, AreEnds, pairs_in-push, AreLinked-push, slots_of-cells_with}

-- no pair of an acyclic order leads from an event to itself
pub apart_pairs : (pairs : List (ℕ × ℕ)) → IsAcyclic pairs → All (λ pair. pair.0 ≡ pair.1 → ⊥) pairs
apart_pairs pairs acyclic k d below same =
    both_ways (reach pairs (get_or pairs k d).0 (get_or pairs k d).0) (acyclic.no_cycle (get_or pairs k d).0) (ap (reach pairs (get_or pairs k d).0) same ∙ reach_pair pairs k d below)

-- one more pair
pub IsSound-pair : (keys : List (ℕ × ℕ)) (cells : Slab Cell) (links : List (Option Link)) (bare : List ℕ) (link : Link) (first second : Cell) (at : ℕ) → IsSound keys cells links bare → CanAdd (events_of keys) (pairs_in links) link.first.0 link.second.0 → AreEnds cells link.from link.to link.first.0 link.second.0 first second (Some at) → at ≡ length links → link.next ≡ first.newest → IsSound keys (cells_with cells link.from link.to first second (Some at) (second.in_count + 1)) (links ++ Some link ∷ []) bare
IsSound-pair keys cells links bare link first second at sound fits ends at_is next =
    record {
      joined = subst (All (JoinsHeld (events_of keys))) (sym more) (All-push (JoinsHeld (events_of keys)) pairs (a, b) sound.joined (record { first = fits.first; second = fits.second }));
      distinct = subst (AllPairs (λ (p q : ℕ × ℕ). p ≡ q → ⊥)) (sym more) (all_pairs_push (λ (p q : ℕ × ℕ). p ≡ q → ⊥) pairs (a, b) sound.distinct (differs pairs a b fits.is_new));
      acyclic = subst IsAcyclic (sym more) (IsAcyclic-push pairs a b sound.acyclic (ap (λ t. t || reach pairs b a) fits.apart ∙ fits.not_back));
      bare = sound.bare;
      linked = AreLinked-push cells links link first second at sound.linked ends at_is next;
      placed = λ event key is. ap (λ slots. event_at slots key) same ∙ sound.placed event key is;
      listed = λ event key is. sound.listed event key (sym (ap (λ slots. event_at slots key) same) ∙ is);
    }
  where
    a : ℕ
    a = link.first.0

    b : ℕ
    b = link.second.0

    pairs : List (ℕ × ℕ)
    pairs = pairs_in links

    more : pairs_in (links ++ Some link ∷ []) ≡ pairs ++ (a, b) ∷ []
    more = pairs_in-push links link

    same : slots_of (cells_with cells link.from link.to first second (Some at) (second.in_count + 1)) ≡ slots_of cells
    same = slots_of-cells_with cells link.from link.to first second (Some at) (second.in_count + 1) ends.in_from ends.in_to

-- one pair fewer
pub IsSound-drop : (keys : List (ℕ × ℕ)) (cells new_cells : Slab Cell) (links new_links : List (Option Link)) (bare new_bare : List ℕ) (event second : ℕ) → IsSound keys cells links bare → IsTakenOut event second (pairs_in links) (pairs_in new_links) → AreLinked new_cells new_links → slots_of new_cells ≡ slots_of cells → All (λ event. is_held (events_of keys) event ≡ true) new_bare → IsSound keys new_cells new_links new_bare
IsSound-drop keys cells new_cells links new_links bare new_bare event second sound out linked same held =
    record {
      joined = subst (All (JoinsHeld (events_of keys))) (sym out.is) (All-between (JoinsHeld (events_of keys)) out.front out.back (event, second) (subst (All (JoinsHeld (events_of keys))) out.was sound.joined));
      distinct = subst (AllPairs (λ (p q : ℕ × ℕ). p ≡ q → ⊥)) (sym out.is) (distinct-between out.front out.back (event, second) (subst (AllPairs (λ (p q : ℕ × ℕ). p ≡ q → ⊥)) out.was sound.distinct));
      acyclic = subst IsAcyclic (sym out.is) (acyclic-between out.front out.back (event, second) (subst IsAcyclic out.was sound.acyclic));
      bare = held;
      linked = linked;
      placed = λ e key is. ap (λ slots. event_at slots key) same ∙ sound.placed e key is;
      listed = λ e key is. sound.listed e key (sym (ap (λ slots. event_at slots key) same) ∙ is);
    }

-- the second event of a pair that is taken out is held
pub second_held : (keys : List (ℕ × ℕ)) (pairs new : List (ℕ × ℕ)) (event second : ℕ) → All (JoinsHeld (events_of keys)) pairs → IsTakenOut event second pairs new → is_held (events_of keys) second ≡ true
second_held keys pairs new event second joined out =
    let n = length out.front in
    let inside : n < length pairs = omega (arith, ap length out.was, length-append out.front ((event, second) ∷ out.back)) in
    let pair : get_or pairs n (0, 0) ≡ (event, second) = ap (λ ps. get_or ps n (0, 0)) out.was ∙ get_or_at out.front (event, second) out.back (0, 0) n refl in
    subst (λ (p : ℕ × ℕ). is_held (events_of keys) p.1 ≡ true) pair (joined n (0, 0) inside).second

-- the pairs of events of which none is this one
pub no_first : (pairs : List (ℕ × ℕ)) (event : ℕ) → outs_of pairs event ≡ [] → All (λ pair. eqb pair.0 event ≡ false) pairs
no_first pairs event none = All-from_recursion (λ (pair : ℕ × ℕ). eqb pair.0 event ≡ false) pairs (each pairs none)
  where
    each : (pairs : List (ℕ × ℕ)) → outs_of pairs event ≡ [] → AllByRecursion (λ (pair : ℕ × ℕ). eqb pair.0 event ≡ false) pairs
    each [] none = tt
    each (pair ∷ more) none =
        let size = sym (length-append (outs_of more event) (cond (eqb pair.0 event) (pair.1 ∷ []) [])) ∙ ap length (sym (outs_of-cons pair more event) ∙ none) in
        (empty (eqb pair.0 event) pair.1 (omega (arith, size)), each more (nil_from_length (outs_of more event) (omega (arith, size))))
      where
        empty : (same : Bool) (second : ℕ) → length (cond same (second ∷ []) []) ≡ 0 → same ≡ false
        empty true second is = absurd (omega (arith, is))
        empty false second is = refl

pub no_second : (pairs : List (ℕ × ℕ)) (event : ℕ) → ins_of pairs event ≡ 0 → All (λ pair. eqb pair.1 event ≡ false) pairs
no_second pairs event none = All-from_recursion (λ (pair : ℕ × ℕ). eqb pair.1 event ≡ false) pairs (each pairs none)
  where
    each : (pairs : List (ℕ × ℕ)) → ins_of pairs event ≡ 0 → AllByRecursion (λ (pair : ℕ × ℕ). eqb pair.1 event ≡ false) pairs
    each [] none = tt
    each (pair ∷ more) none =
        let size = sym (ins_of-cons pair more event) ∙ none in
        (zero_one (eqb pair.1 event) (omega (arith, size)), each more (omega (arith, size)))
      where
        zero_one : (same : Bool) → ◌≡◌ {A = ℕ} (cond same 1 0) 0 → same ≡ false
        zero_one true is = absurd (omega (arith, is))
        zero_one false is = refl

-- what is so of all pairs is so of each link
abbrev pub IfLink : (ℕ × ℕ → Type 0) → Option Link → Type 0
IfLink P None = Unit {0}
IfLink P (Some link) = P (pair_of link)

All-links : (P : ℕ × ℕ → Type 0) (links : List (Option Link)) → All P (pairs_in links) → All (IfLink P) links
All-links P links all = All-from_recursion (IfLink P) links (each links (recursion_from_All P (pairs_in links) all))
  where
    each : (links : List (Option Link)) → AllByRecursion P (pairs_in links) → AllByRecursion (IfLink P) links
    each [] all = tt
    each (None ∷ more) all = (tt, each more all)
    each (Some link ∷ more) all = (all.0, each more all.1)

-- a change of one cell
record IsOtherwise (old new : Slab Cell) (key : ℕ) : Type 0 where
  at : (other : ℕ) → (other ≡ key → ⊥) → event_at (slots_of new) other ≡ event_at (slots_of old) other

otherwise : (old new : Slab Cell) (key : ℕ) (slot : Option Cell) → Updates old new key slot → IsOtherwise old new key
otherwise old new key slot updates =
    record { at = λ other differs. event_at-slots new other ∙ ap slot_of (updates.others other differs) ∙ sym (event_at-slots old other) }

-- links join the cells that stay
joins_kept : (old new : Slab Cell) (key : ℕ) (slot : Option Link) → IsOtherwise old new key → IfLink (λ pair. (event_at (slots_of old) key ≡ Some pair.0 → ⊥) × (event_at (slots_of old) key ≡ Some pair.1 → ⊥)) slot → JoinsCells old slot → JoinsCells new slot
joins_kept old new key None kept apart joins = tt
joins_kept old new key (Some link) kept apart joins =
    record {
      from = kept.at link.from (λ same. apart.0 (ap (event_at (slots_of old)) (sym same) ∙ joins.from)) ∙ joins.from;
      to = kept.at link.to (λ same. apart.1 (ap (event_at (slots_of old)) (sym same) ∙ joins.to)) ∙ joins.to;
    }

-- an event of which there is no link has no newest one; the links stand with the newest first
no_newest : (newest : List (Option Link)) (event : ℕ) → All (IfLink (λ pair. eqb pair.0 event ≡ false)) newest → newest_in newest event ≡ None
no_newest newest event none = each newest (recursion_from_All (IfLink (λ pair. eqb pair.0 event ≡ false)) newest none)
  where
    each : (newest : List (Option Link)) → AllByRecursion (IfLink (λ pair. eqb pair.0 event ≡ false)) newest → newest_in newest event ≡ None
    each [] all = refl
    each (None ∷ older) all = each older all.1
    each (Some link ∷ older) all = ap (λ t. cond t (Some (length older)) (newest_in older event)) all.0 ∙ each older all.1

-- one more event, which has no pair
pub IsSound-vertex : (keys : List (ℕ × ℕ)) (old new : Slab Cell) (links : List (Option Link)) (bare : List ℕ) (key : ℕ) (cell : Cell) → IsSound keys old links bare → is_held (events_of keys) cell.event.0 ≡ false → get old key ≡ None → Updates old new key (Some cell) → cell.newest ≡ None → cell.in_count ≡ 0 → IsSound (keys ++ (cell.event.0, key) ∷ []) new links bare
IsSound-vertex keys old new links bare key cell sound absent vacant updates newest in_count =
    record {
      joined = λ k d below. subst (λ events. JoinsHeld events (get_or pairs k d)) (sym events) (JoinsHeld-more (events_of keys) (id ∷ []) (get_or pairs k d) (sound.joined k d below));
      distinct = sound.distinct;
      acyclic = sound.acyclic;
      bare = λ k d below. ap (λ es. is_held es (get_or bare k d)) events ∙ is_held-more (events_of keys) (id ∷ []) (get_or bare k d) (sound.bare k d below);
      linked = record {
        one_cell = λ c d event in_c in_d. same_Some c d (sym (listed event c in_c) ∙ listed event d in_d);
        chained = sound.linked.chained;
        leads = λ k d below. joins_kept old new key (get_or links k d) kept (All-links (λ pair. (event_at (slots_of old) key ≡ Some pair.0 → ⊥) × (event_at (slots_of old) key ≡ Some pair.1 → ⊥)) links (λ k d below. (λ is. none-some (get_or pairs k d).0 (sym empty ∙ is), λ is. none-some (get_or pairs k d).1 (sym empty ∙ is))) k d below) (sound.linked.leads k d below);
        newest = λ other is at. by_key other is at (λ c. c.newest ≡ newest_of links c.event.0) (newest ∙ sym no_link) (sound.linked.newest other is);
        ins = λ other is at. by_key other is at (λ c. c.in_count ≡ ins_of pairs c.event.0) (in_count ∙ sym (ins_of-none pairs id (λ k d below. other_than (get_or pairs k d).1 (sound.joined k d below).second))) (sound.linked.ins other is);
      };
      placed = placed;
      listed = listed;
    }
  where
    id : ℕ
    id = cell.event.0

    pairs : List (ℕ × ℕ)
    pairs = pairs_in links

    events : events_of (keys ++ (id, key) ∷ []) ≡ events_of keys ++ id ∷ []
    events = map-append (λ (entry : ℕ × ℕ). entry.0) keys ((id, key) ∷ [])

    kept : IsOtherwise old new key
    kept = otherwise old new key (Some cell) updates

    empty : event_at (slots_of old) key ≡ None
    empty = event_at-slots old key ∙ ap slot_of vacant

    here : event_at (slots_of new) key ≡ Some id
    here = event_at-cell new key cell updates.changed

    -- a held event is another one
    other_than : (event : ℕ) → is_held (events_of keys) event ≡ true → eqb event id ≡ false
    other_than event held = ne_eqb event id (λ same. both_ways (is_held (events_of keys) id) absent (subst (λ e. is_held (events_of keys) e ≡ true) same held))

    no_link : newest_of links id ≡ None
    no_link = no_newest (reverse links) id (All-reverse (IfLink (λ pair. eqb pair.0 id ≡ false)) links (All-links (λ pair. eqb pair.0 id ≡ false) links (λ k d below. other_than (get_or pairs k d).0 (sound.joined k d below).first)))

    by_key : (other : ℕ) (is : Cell) → get new other ≡ Some is → (P : Cell → Type 0) → P cell → (get old other ≡ Some is → P is) → P is
    by_key other is at P fresh was =
        elim (cases_eq other key) [
          | inl same ↦ subst P (same_Some cell is (sym updates.changed ∙ ap (get new) (sym same) ∙ at)) fresh
          | inr differs ↦ was (sym (updates.others other differs) ∙ at)
        ]

    placed : (event k : ℕ) → number_of (keys ++ (id, key) ∷ []) event ≡ Some k → event_at (slots_of new) k ≡ Some event
    placed event k is = one (eqb id event) refl (sym (number_of-push keys id key event absent) ∙ is)
      where
        one : (same : Bool) → eqb id event ≡ same → cond same (Some key) (number_of keys event) ≡ Some k → event_at (slots_of new) k ≡ Some event
        one true same is = ap (event_at (slots_of new)) (sym (same_Some key k is)) ∙ here ∙ ap Some (eqb-true id event same)
        one false same is =
            let was = sound.placed event k is in
            kept.at k (λ k_is. none-some event (sym empty ∙ ap (event_at (slots_of old)) (sym k_is) ∙ was)) ∙ was

    listed : (event k : ℕ) → event_at (slots_of new) k ≡ Some event → number_of (keys ++ (id, key) ∷ []) event ≡ Some k
    listed event k is =
        elim (cases_eq k key) [
          | inl same ↦
              let event_is : id ≡ event = same_Some id event (sym here ∙ ap (event_at (slots_of new)) (sym same) ∙ is) in
              number_of-push keys id key event absent ∙ ap (λ t. cond t (Some key) (number_of keys event)) (eq-eqb id event event_is) ∙ ap Some (sym same)
          | inr differs ↦
              let was = sound.listed event k (sym (kept.at k differs) ∙ is) in
              let apart : eqb id event ≡ false = ne_eqb id event (λ same. eqb-false event id (other_than event (held_at keys event k was)) (sym same)) in
              number_of-push keys id key event absent ∙ ap (λ t. cond t (Some key) (number_of keys event)) apart ∙ was
        ]

-- one event fewer, which has no pair
pub IsSound-remove : (keys : List (ℕ × ℕ)) (old new : Slab Cell) (links : List (Option Link)) (bare : List ℕ) (key id : ℕ) → IsSound keys old links bare → event_at (slots_of old) key ≡ Some id → outs_of (pairs_in links) id ≡ [] → ins_of (pairs_in links) id ≡ 0 → is_held bare id ≡ false → Updates old new key None → IsSound (entries_without keys id) new links bare
IsSound-remove keys old new links bare key id sound here outs ins apart updates =
    record {
      joined = λ k d below. record {
        first = stays (get_or pairs k d).0 (no_first pairs id outs k d below) (sound.joined k d below).first;
        second = stays (get_or pairs k d).1 (no_second pairs id ins k d below) (sound.joined k d below).second;
      };
      distinct = sound.distinct;
      acyclic = sound.acyclic;
      bare = λ k d below. stays (get_or bare k d) (not_bare k d below) (sound.bare k d below);
      linked = record {
        one_cell = λ c d event in_c in_d. same_Some c d (sym (listed event c in_c) ∙ listed event d in_d);
        chained = sound.linked.chained;
        leads = λ k d below. joins_kept old new key (get_or links k d) kept (All-links (λ pair. (event_at (slots_of old) key ≡ Some pair.0 → ⊥) × (event_at (slots_of old) key ≡ Some pair.1 → ⊥)) links (λ k d below. (λ is. eqb-false (get_or pairs k d).0 id (no_first pairs id outs k d below) (same_Some (get_or pairs k d).0 id (sym is ∙ here)), λ is. eqb-false (get_or pairs k d).1 id (no_second pairs id ins k d below) (same_Some (get_or pairs k d).1 id (sym is ∙ here)))) k d below) (sound.linked.leads k d below);
        newest = λ other is at. sound.linked.newest other is (was other is at);
        ins = λ other is at. sound.linked.ins other is (was other is at);
      };
      placed = placed;
      listed = listed;
    }
  where
    pairs : List (ℕ × ℕ)
    pairs = pairs_in links

    kept : IsOtherwise old new key
    kept = otherwise old new key None updates

    gone : get new key ≡ None
    gone = updates.changed

    stays : (event : ℕ) → eqb event id ≡ false → is_held (events_of keys) event ≡ true → is_held (events_of (entries_without keys id)) event ≡ true
    stays event other held =
        ap (λ events. is_held events event) (events_of-without keys id) ∙ is_held-without (events_of keys) id event (ne_eqb id event (λ same. eqb-false event id other (sym same))) ∙ held

    not_bare : (k : ℕ) (d : ℕ) → k < length bare → eqb (get_or bare k d) id ≡ false
    not_bare k d below = ne_eqb (get_or bare k d) id (λ same. both_ways (is_held bare id) apart (list_any_at (λ vertex. eqb vertex id) bare k d below (eq-eqb (get_or bare k d) id same)))

    was : (other : ℕ) (cell : Cell) → get new other ≡ Some cell → get old other ≡ Some cell
    was other cell at =
        elim (cases_eq other key) [
          | inl same ↦ absurd (none-some cell (sym gone ∙ ap (get new) (sym same) ∙ at))
          | inr differs ↦ sym (updates.others other differs) ∙ at
        ]

    placed : (event k : ℕ) → number_of (entries_without keys id) event ≡ Some k → event_at (slots_of new) k ≡ Some event
    placed event k is =
        elim (cases_eq id event) [
          | inl same ↦ absurd (none-some k (sym (number_of-without_same keys id) ∙ ap (number_of (entries_without keys id)) same ∙ is))
          | inr differs ↦
              let at = sound.placed event k (sym (number_of-without_other keys id event (ne_eqb id event differs)) ∙ is) in
              kept.at k (λ k_is. differs (same_Some id event (sym here ∙ ap (event_at (slots_of old)) (sym k_is) ∙ at))) ∙ at
        ]

    listed : (event k : ℕ) → event_at (slots_of new) k ≡ Some event → number_of (entries_without keys id) event ≡ Some k
    listed event k is =
        elim (cases_eq k key) [
          | inl same ↦ absurd (none-some event (sym (event_at-slots new key ∙ ap slot_of gone) ∙ ap (event_at (slots_of new)) (sym same) ∙ is))
          | inr differs ↦
              let at = sym (kept.at k differs) ∙ is in
              let apart : eqb id event ≡ false = ne_eqb id event (λ same. differs (sound.linked.one_cell k key event at (here ∙ ap Some same))) in
              number_of-without_other keys id event apart ∙ sound.listed event k at
        ]

-- a cell that was there stays where another one is filled
pub cells_kept : (old new : Slab Cell) (key : ℕ) (slot : Option Cell) (cell event : ℕ) → get old key ≡ None → Updates old new key slot → event_at (slots_of old) cell ≡ Some event → event_at (slots_of new) cell ≡ Some event
cells_kept old new key slot cell event vacant updates is =
    (otherwise old new key slot updates).at cell (λ same. none-some event (sym (event_at-slots old key ∙ ap slot_of vacant) ∙ ap (event_at (slots_of old)) (sym same) ∙ is)) ∙ is

-- the room for bare events with one pair fewer, which makes one event bare at most
pub HasRoom-drop : (links new_links : List (Option Link)) (bare new_bare : List ℕ) (count capacity event second : ℕ) → HasRoom links bare count capacity → IsTakenOut event second (pairs_in links) (pairs_in new_links) → length new_bare ≤ length bare + 1 → HasRoom new_links new_bare (count - 1) capacity
HasRoom-drop links new_links bare new_bare count capacity event second was out le =
    let old = ap length out.was ∙ length-append out.front ((event, second) ∷ out.back) in
    let new = ap length out.is ∙ length-append out.front out.back in
    record { counted = omega (arith, was.counted, old, new); room = omega (arith, was.counted, was.room, old, le) }

-- what a graph is without the newest pair of an event
pub dropped : (old new : List (ℕ × ℕ)) (old_bare bared : List ℕ) (event second : ℕ) → AllPairs (λ p q. p ≡ q → ⊥) old → All (λ pair. pair.0 ≡ pair.1 → ⊥) old → IsTakenOut event second old new → bared ≡ old_bare ++ cond (eqb (ins_of new second) 0) (second ∷ []) [] → IsDropped event old new old_bare bared
dropped old new old_bare bared event second distinct apart out bare =
    record {
      second = second;
      outs = out.outs;
      others = ap (λ pairs. pairs_without pairs event) out.is ∙ others-between out.front out.back event second ∙ ap (λ pairs. pairs_without pairs event) (sym out.was);
      ins = sym (ap (λ pairs. ins_of pairs event) out.was ∙ ins-between out.front out.back event second event ∙ ap (λ t. ins_of (out.front ++ out.back) event + cond t 1 0) back ∙ add-zero (ins_of (out.front ++ out.back) event) ∙ ap (λ pairs. ins_of pairs event) (sym out.is));
      gone = ap (λ pairs. has_pair pairs event second) out.is ∙ gone-between out.front out.back event second (subst (AllPairs (λ (p q : ℕ × ℕ). p ≡ q → ⊥)) out.was distinct);
      bare = bare;
      fewer = omega (arith, ap length out.was, ap length out.is, length-append out.front ((event, second) ∷ out.back), length-append out.front out.back);
    }
  where
    n : ℕ
    n = length out.front

    inside : n < length old
    inside = omega (arith, ap length out.was, length-append out.front ((event, second) ∷ out.back))

    pair : get_or old n (0, 0) ≡ (event, second)
    pair = ap (λ ps. get_or ps n (0, 0)) out.was ∙ get_or_at out.front (event, second) out.back (0, 0) n refl

    back : eqb second event ≡ false
    back = ne_eqb second event (λ same. apart n (0, 0) inside (ap (λ (p : ℕ × ℕ). p.0) pair ∙ sym same ∙ ap (λ (p : ℕ × ℕ). p.1) (sym pair)))

-- the events of a table are below what its events are below
pub entries_below : (keys : List (ℕ × ℕ)) (id : ℕ) → All (λ vertex. vertex < id) (events_of keys) → All (λ entry. entry.0 < id) keys
entries_below keys id all k d below =
    subst (λ e. e < id) (get_or-map (λ (entry : ℕ × ℕ). entry.0) keys k d d.0 below) (all k d.0 (omega (arith, length-map keys (λ (entry : ℕ × ℕ). entry.0))))

-- an event above all is not held
pub is_held-above : (events : List ℕ) (id : ℕ) → All (λ vertex. vertex < id) events → is_held events id ≡ false
is_held-above events id all = is_held-none events id (λ k d below same. omega (arith, all k d below, same))

-- some pairs of the event were taken out, from the newest on
pub record IsDropping (event : ℕ) (old_pairs pairs : List (ℕ × ℕ)) (old_bare bared : List ℕ) : Type 0 where
  pub done : List ℕ
  pub outs : outs_of old_pairs event ≡ done ++ outs_of pairs event
  pub others : pairs_without pairs event ≡ pairs_without old_pairs event
  pub ins : ins_of pairs event ≡ ins_of old_pairs event
  pub bare : bared ≡ old_bare ++ filter (λ other. eqb (ins_of (pairs_without old_pairs event) other) 0) done

pub IsDropping-more : (event : ℕ) (old_pairs pairs new_pairs : List (ℕ × ℕ)) (old_bare bared new_bared : List ℕ) → IsDropping event old_pairs pairs old_bare bared → IsDropped event pairs new_pairs bared new_bared → IsDropping event old_pairs new_pairs old_bare new_bared
IsDropping-more event old_pairs pairs new_pairs old_bare bared new_bared was is =
    record {
      done = was.done ++ is.second ∷ [];
      outs = was.outs ∙ ap (λ l. was.done ++ l) is.outs ∙ sym (append_assoc was.done (is.second ∷ []) (outs_of new_pairs event));
      others = is.others ∙ was.others;
      ins = is.ins ∙ was.ins;
      bare = is.bare ∙ ap (λ n. bared ++ cond (eqb n 0) (is.second ∷ []) []) count ∙ ap (λ l. l ++ filter test (is.second ∷ [])) was.bare ∙ append_assoc old_bare (filter test was.done) (filter test (is.second ∷ [])) ∙ ap (λ l. old_bare ++ l) (sym (filter-append test was.done (is.second ∷ [])));
    }
  where
    test : ℕ → Bool
    test other = eqb (ins_of (pairs_without old_pairs event) other) 0

    count : ins_of new_pairs is.second ≡ ins_of (pairs_without old_pairs event) is.second
    count = sym (ins_of-without new_pairs event is.second is.gone) ∙ ap (λ ps. ins_of ps is.second) (is.others ∙ was.others)

-- all were taken out
pub pairs-dropped : (event : ℕ) (old_pairs pairs : List (ℕ × ℕ)) (old_bare bared : List ℕ) → IsDropping event old_pairs pairs old_bare bared → outs_of pairs event ≡ [] → pairs ≡ pairs_without old_pairs event
pairs-dropped event old_pairs pairs old_bare bared was ended = sym (pairs_without-none pairs event ended) ∙ was.others

-- an event is none of those that it leaves bare
pub not_bared : (pairs : List (ℕ × ℕ)) (bare : List ℕ) (event : ℕ) → IsAcyclic pairs → is_held bare event ≡ false → is_held (bare ++ bared_by pairs event) event ≡ false
not_bared pairs bare event acyclic apart =
    list_any-append (λ vertex. eqb vertex event) bare (bared_by pairs event) ∙ or_from (is_held bare event) (is_held (bared_by pairs event) event) apart (is_held-none (bared_by pairs event) event (All-filter (λ other. eqb (ins_of (pairs_without pairs event) other) 0) (λ other. other ≡ event → ⊥) (outs_of pairs event) outs))
  where
    firsts : List (ℕ × ℕ)
    firsts = filter (λ pair. eqb pair.0 event) (reverse pairs)

    others : All (λ pair. pair.0 ≡ pair.1 → ⊥) firsts
    others = All-filter (λ pair. eqb pair.0 event) (λ (pair : ℕ × ℕ). pair.0 ≡ pair.1 → ⊥) (reverse pairs) (All-reverse (λ (pair : ℕ × ℕ). pair.0 ≡ pair.1 → ⊥) pairs (apart_pairs pairs acyclic))

    outs : All (λ other. other ≡ event → ⊥) (outs_of pairs event)
    outs = All-map (λ other. other ≡ event → ⊥) (λ (pair : ℕ × ℕ). pair.1) firsts (λ k d below same. others k d below (eqb-true (get_or firsts k d).0 event (filter_passes (λ (pair : ℕ × ℕ). eqb pair.0 event) (reverse pairs) k d below) ∙ sym same))
