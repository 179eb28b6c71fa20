-- The links and the cells of a graph, with one more link and with one that was taken out.
use Rattle.std.proofs.Common.{◌≡◌, ℕ, ◌+◌, ◌-◌, ◌<◌, ◌≤◌, Bool, true, false, cond, eqb, List, [], ◌∷◌, ◌++◌, length, get_or, set, refl, sym, ap, ◌∙◌, subst, inl, inr, arith, length-append, add-zero, suc}
use Rattle.std.specs.Prelude.{Option, None, Some, map, reverse}
use Rattle.std.specs.Option.{option_map}
use Rattle.std.specs.List.{All}
use Rattle.std.proofs.lemmas.Option.{none-some, same_Some}
use Rattle.std.proofs.lemmas.Bool.{both_ways, cases_eq, eq-eqb, eqb-true, eqb-false, ne_eqb, false_from_ne_true}
use Rattle.std.proofs.lemmas.List.{reverse-append, length-reverse, get_or-reverse, reverse-reverse, get_or_past, get_or-set_same, get_or-set_other}
use Rattle.std.proofs.lemmas.List.Elements.{All-push, All-set, filter_map-append}
use Rattle.std.proofs.lemmas.List.Sums.{count_by-le-length}
use Rattle.slab.specs.Slab.{Slab, get, with_value}
use Rattle.dep_graph.specs.declared.outs.Link.{Link}
use Rattle.dep_graph.specs.declared.graph.Cell.{Cell}
use Rattle.dep_graph.specs.GraphView.{event_at, outs_of, ins_of}
use Rattle.dep_graph.specs.Links.{pair_of, pairs_in, newest_in, newest_of, AreChained, AreChainedIn, slots_of, IsBetween, JoinsCells, AreLinked, IsTakenOut}
use Rattle.dep_graph.proofs.ChainLemmas.{cut, chain-newest, chain_in-none}
use Rattle.dep_graph.proofs.CellLemmas.{Holds, holds, event_at-cell, get-with_same, get-with_other, slots_of-with}
use Rattle.dep_graph.proofs.PairLemmas.{ins_of-push, ins-between}
use Rattle.dep_graph.proofs.DropLemmas.{IsGap, gap}
use Rattle.dep_graph.proofs.SoundLemmas.{JoinsCells-same}

-- a cell with another newest link
abbrev pub started : Cell → Option ℕ → Cell
started cell start = record { event = cell.event; in_count = cell.in_count; newest = start }

-- a cell with another count of predecessors
abbrev pub counted : Cell → ℕ → Cell
counted cell count = record { event = cell.event; in_count = count; newest = cell.newest }

-- the cells after a change of the newest link of one, and of the count of another
abbrev pub cells_with : Slab Cell → ℕ → ℕ → Cell → Cell → Option ℕ → ℕ → Slab Cell
cells_with cells from to first second start count = with_value (with_value cells from (started first start)) to (counted second count)

-- what is known of these two cells
pub record AreEnds (cells : Slab Cell) (from to a b : ℕ) (first second : Cell) (start : Option ℕ) : Type 0 where
  pub in_from : get cells from ≡ Some first
  pub in_to : get (with_value cells from (started first start)) to ≡ Some second
  pub at_from : event_at (slots_of cells) from ≡ Some a
  pub at_to : event_at (slots_of cells) to ≡ Some b
  pub apart : eqb a b ≡ false

-- each event stays in its cell
pub slots_of-cells_with : (cells : Slab Cell) (from to : ℕ) (first second : Cell) (start : Option ℕ) (count : ℕ) → get cells from ≡ Some first → get (with_value cells from (started first start)) to ≡ Some second → slots_of (cells_with cells from to first second start count) ≡ slots_of cells
slots_of-cells_with cells from to first second start count in_from in_to =
    slots_of-with (with_value cells from (started first start)) to second (counted second count) in_to refl ∙ slots_of-with cells from first (started first start) in_from refl

-- the event in a cell
pub named : (cells : Slab Cell) (key event : ℕ) (cell : Cell) → get cells key ≡ Some cell → event_at (slots_of cells) key ≡ Some event → cell.event.0 ≡ event
named cells key event cell at is = same_Some cell.event.0 event (sym (event_at-cell cells key cell at) ∙ is)

-- what was and what is in the cells
pub record AreChanged (cells new : Slab Cell) (from to a b : ℕ) (first second : Cell) (start : Option ℕ) (count : ℕ) : Type 1 where
  pub first_named : first.event.0 ≡ a
  pub second_named : second.event.0 ≡ b
  pub second_was : get cells to ≡ Some second
  pub slots : slots_of new ≡ slots_of cells
  pub at : (key : ℕ) (cell : Cell) → get new key ≡ Some cell → (P : Cell → Type 0) → P (started first start) → P (counted second count) → ((was : Cell) → get cells key ≡ Some was → eqb a was.event.0 ≡ false → eqb b was.event.0 ≡ false → P was) → P cell

pub changed : (cells : Slab Cell) (links : List (Option Link)) (from to a b : ℕ) (first second : Cell) (start : Option ℕ) (count : ℕ) → AreLinked cells links → AreEnds cells from to a b first second start → AreChanged cells (cells_with cells from to first second start count) from to a b first second start count
changed cells links from to a b first second start count linked ends =
    record { first_named = first_named; second_named = named cells to b second second_was ends.at_to; second_was = second_was; slots = slots_of-cells_with cells from to first second start count ends.in_from ends.in_to; at = at }
  where
    new : Slab Cell
    new = cells_with cells from to first second start count

    apart : from ≡ to → ⊥
    apart same = eqb-false a b ends.apart (same_Some a b (sym ends.at_from ∙ ap (event_at (slots_of cells)) same ∙ ends.at_to))

    first_named : first.event.0 ≡ a
    first_named = named cells from a first ends.in_from ends.at_from

    second_was : get cells to ≡ Some second
    second_was = sym (get-with_other cells from to (started first start) (λ same. apart (sym same))) ∙ ends.in_to

    -- another cell is of another event
    other : (key i event : ℕ) (cell : Cell) → get cells key ≡ Some cell → event_at (slots_of cells) i ≡ Some event → (key ≡ i → ⊥) → eqb event cell.event.0 ≡ false
    other key i event cell in_key at_i differs =
        ne_eqb event cell.event.0 (λ same. differs (linked.one_cell key i cell.event.0 (event_at-cell cells key cell in_key) (at_i ∙ ap Some same)))

    at : (key : ℕ) (cell : Cell) → get new key ≡ Some cell → (P : Cell → Type 0) → P (started first start) → P (counted second count) → ((was : Cell) → get cells key ≡ Some was → eqb a was.event.0 ≡ false → eqb b was.event.0 ≡ false → P was) → P cell
    at key cell in_new P at_first at_second at_other =
        elim (cases_eq key to) [
          | inl is_to ↦
              let one = same_Some (counted second count) cell (sym (get-with_same (with_value cells from (started first start)) to second (counted second count) ends.in_to) ∙ ap (get new) (sym is_to) ∙ in_new) in
              subst P one at_second
          | inr not_to ↦
              let then = sym (get-with_other (with_value cells from (started first start)) to key (counted second count) not_to) ∙ in_new in
              elim (cases_eq key from) [
                | inl is_from ↦
                    let one = same_Some (started first start) cell (sym (get-with_same cells from first (started first start) ends.in_from) ∙ ap (get (with_value cells from (started first start))) (sym is_from) ∙ then) in
                    subst P one at_first
                | inr not_from ↦
                    let was = sym (get-with_other cells from key (started first start) not_from) ∙ then in
                    at_other cell was (other key from a cell was ends.at_from not_from) (other key to b cell was ends.at_to not_to)
              ]
        ]

-- the newest link of an event with one more link, and the pairs
pub newest_of-push : (links : List (Option Link)) (link : Link) (event : ℕ) → newest_of (links ++ Some link ∷ []) event ≡ cond (eqb link.first.0 event) (Some (length links)) (newest_of links event)
newest_of-push links link event =
    ap (λ l. newest_in l event) (reverse-append links (Some link ∷ [])) ∙ ap (λ n. cond (eqb link.first.0 event) (Some n) (newest_of links event)) (length-reverse links)

pub pairs_in-push : (links : List (Option Link)) (link : Link) → pairs_in (links ++ Some link ∷ []) ≡ pairs_in links ++ pair_of link ∷ []
pairs_in-push links link = filter_map-append (option_map pair_of) links (Some link ∷ [])

-- one more link
pub AreLinked-push : (cells : Slab Cell) (links : List (Option Link)) (link : Link) (first second : Cell) (at : ℕ) → AreLinked cells links → AreEnds cells link.from link.to link.first.0 link.second.0 first second (Some at) → at ≡ length links → link.next ≡ first.newest → AreLinked (cells_with cells link.from link.to first second (Some at) (second.in_count + 1)) (links ++ Some link ∷ [])
AreLinked-push cells links link first second at linked ends at_is next =
    record {
      one_cell = λ c d event in_c in_d. linked.one_cell c d event (sym (ap (λ slots. event_at slots c) change.slots) ∙ in_c) (sym (ap (λ slots. event_at slots d) change.slots) ∙ in_d);
      chained = subst AreChainedIn (sym (reverse-append links (Some link ∷ []))) (next ∙ linked.newest link.from first ends.in_from ∙ ap (newest_of links) change.first_named, linked.chained);
      leads = All-push (JoinsCells new) links (Some link) (λ k d below. JoinsCells-same cells new (get_or links k d) change.slots (linked.leads k d below)) (JoinsCells-same cells new (Some link) change.slots (record { from = ends.at_from; to = ends.at_to }));
      newest = λ key cell in_new. change.at key cell in_new (λ c. c.newest ≡ newest_of (links ++ Some link ∷ []) c.event.0)
          (ap Some at_is ∙ sym (newest_of-push links link first.event.0 ∙ ap (λ t. cond t (Some (length links)) (newest_of links first.event.0)) (eq-eqb link.first.0 first.event.0 (sym change.first_named))))
          (linked.newest link.to second change.second_was ∙ sym (newest_of-push links link second.event.0 ∙ ap (λ t. cond t (Some (length links)) (newest_of links second.event.0)) (ap (eqb link.first.0) change.second_named ∙ ends.apart)))
          (λ was in_was not_first not_second. linked.newest key was in_was ∙ sym (newest_of-push links link was.event.0 ∙ ap (λ t. cond t (Some (length links)) (newest_of links was.event.0)) not_first));
      ins = λ key cell in_new. change.at key cell in_new (λ c. c.in_count ≡ ins_of (pairs_in (links ++ Some link ∷ [])) c.event.0)
          (linked.ins link.from first ends.in_from ∙ sym (ins first.event.0 ∙ ap (λ t. ins_of (pairs_in links) first.event.0 + cond t 1 0) (ap (eqb link.second.0) change.first_named ∙ back) ∙ add-zero (ins_of (pairs_in links) first.event.0)))
          (ap (λ n. n + 1) (linked.ins link.to second change.second_was) ∙ sym (ins second.event.0 ∙ ap (λ t. ins_of (pairs_in links) second.event.0 + cond t 1 0) (eq-eqb link.second.0 second.event.0 (sym change.second_named))))
          (λ was in_was not_first not_second. linked.ins key was in_was ∙ sym (ins was.event.0 ∙ ap (λ t. ins_of (pairs_in links) was.event.0 + cond t 1 0) not_second ∙ add-zero (ins_of (pairs_in links) was.event.0)));
    }
  where
    new : Slab Cell
    new = cells_with cells link.from link.to first second (Some at) (second.in_count + 1)

    change : AreChanged cells new link.from link.to link.first.0 link.second.0 first second (Some at) (second.in_count + 1)
    change = changed cells links link.from link.to link.first.0 link.second.0 first second (Some at) (second.in_count + 1) linked ends

    back : eqb link.second.0 link.first.0 ≡ false
    back = ne_eqb link.second.0 link.first.0 (λ same. eqb-false link.first.0 link.second.0 ends.apart (sym same))

    ins : (event : ℕ) → ins_of (pairs_in (links ++ Some link ∷ [])) event ≡ ins_of (pairs_in links) event + cond (eqb link.second.0 event) 1 0
    ins event = ap (λ pairs. ins_of pairs event) (pairs_in-push links link) ∙ ins_of-push (pairs_in links) link.first.0 link.second.0 event

-- a link that was taken out
pub AreLinked-drop : (cells : Slab Cell) (links : List (Option Link)) (link : Link) (first second : Cell) (at key : ℕ) → AreLinked cells links → AreEnds cells key link.to link.first.0 link.second.0 first second link.next → IsGap links at link → AreLinked (cells_with cells key link.to first second link.next (second.in_count - 1)) (set links at None)
AreLinked-drop cells links link first second at key linked ends gap =
    record {
      one_cell = λ c d event in_c in_d. linked.one_cell c d event (sym (ap (λ slots. event_at slots c) change.slots) ∙ in_c) (sym (ap (λ slots. event_at slots d) change.slots) ∙ in_d);
      chained = gap.chained;
      leads = All-set (JoinsCells new) links at None tt (λ k d below. JoinsCells-same cells new (get_or links k d) change.slots (linked.leads k d below));
      newest = λ key' cell in_new. change.at key' cell in_new (λ c. c.newest ≡ newest_of (set links at None) c.event.0)
          (sym (ap (newest_of (set links at None)) change.first_named ∙ gap.same))
          (linked.newest link.to second change.second_was ∙ sym (gap.others second.event.0 (ap (eqb link.first.0) change.second_named ∙ ends.apart)))
          (λ was in_was not_first not_second. linked.newest key' was in_was ∙ sym (gap.others was.event.0 not_first));
      ins = λ key' cell in_new. change.at key' cell in_new (λ c. c.in_count ≡ ins_of (pairs_in (set links at None)) c.event.0)
          (linked.ins key first ends.in_from ∙ ins first.event.0 ∙ ap (λ t. ins_of (pairs_in (set links at None)) first.event.0 + cond t 1 0) (ap (eqb link.second.0) change.first_named ∙ back) ∙ add-zero (ins_of (pairs_in (set links at None)) first.event.0))
          (one_less second.in_count (ins_of (pairs_in (set links at None)) second.event.0) (linked.ins link.to second change.second_was ∙ ins second.event.0 ∙ ap (λ t. ins_of (pairs_in (set links at None)) second.event.0 + cond t 1 0) (eq-eqb link.second.0 second.event.0 (sym change.second_named))))
          (λ was in_was not_first not_second. linked.ins key' was in_was ∙ ins was.event.0 ∙ ap (λ t. ins_of (pairs_in (set links at None)) was.event.0 + cond t 1 0) not_second ∙ add-zero (ins_of (pairs_in (set links at None)) was.event.0));
    }
  where
    new : Slab Cell
    new = cells_with cells key link.to first second link.next (second.in_count - 1)

    change : AreChanged cells new key link.to link.first.0 link.second.0 first second link.next (second.in_count - 1)
    change = changed cells links key link.to link.first.0 link.second.0 first second link.next (second.in_count - 1) linked ends

    back : eqb link.second.0 link.first.0 ≡ false
    back = ne_eqb link.second.0 link.first.0 (λ same. eqb-false link.first.0 link.second.0 ends.apart (sym same))

    ins : (event : ℕ) → ins_of (pairs_in links) event ≡ ins_of (pairs_in (set links at None)) event + cond (eqb link.second.0 event) 1 0
    ins event =
        ap (λ pairs. ins_of pairs event) gap.was ∙ ins-between gap.front gap.back link.first.0 link.second.0 event ∙ ap (λ pairs. ins_of pairs event + cond (eqb link.second.0 event) 1 0) (sym gap.is)

    one_less : (n m : ℕ) → n ≡ m + 1 → n - 1 ≡ m
    one_less n m is = omega (arith, is)

-- the newest link of an event is there, and is one of the event
pub record IsFound (links : List (Option Link)) (event at : ℕ) : Type 0 where
  pub link : Link
  pub below : at < length links
  pub is : get_or links at None ≡ Some link
  pub first : link.first.0 ≡ event

-- with the newest first
record IsFoundIn (newest : List (Option Link)) (event at : ℕ) : Type 0 where
  link : Link
  below : at < length newest
  is : get_or newest (length newest - 1 - at) None ≡ Some link
  first : link.first.0 ≡ event

found_behind : (slot : Option Link) (older : List (Option Link)) (event at : ℕ) → IsFoundIn older event at → IsFoundIn (slot ∷ older) event at
found_behind slot older event at found =
    record { link = found.link; below = omega (arith, found.below); is = ap (λ k. get_or (slot ∷ older) k None) (further (length older) at found.below) ∙ found.is; first = found.first }
  where
    further : (n k : ℕ) → k < n → suc n - 1 - k ≡ suc (n - 1 - k)
    further n k less = omega arith

found_in : (newest : List (Option Link)) (event at : ℕ) → newest_in newest event ≡ Some at → IsFoundIn newest event at
found_in [] event at is = absurd (none-some at is)
found_in (None ∷ older) event at is = found_behind None older event at (found_in older event at is)
found_in (Some link ∷ older) event at is = one (eqb link.first.0 event) refl is (found_in older event at)
  where
    one : (same : Bool) → eqb link.first.0 event ≡ same → cond same (Some (length older)) (newest_in older event) ≡ Some at → (newest_in older event ≡ Some at → IsFoundIn older event at) → IsFoundIn (Some link ∷ older) event at
    one true first is rest =
        let here : length older ≡ at = same_Some (length older) at is in
        record { link = link; below = omega (arith, here); is = ap (λ k. get_or (Some link ∷ older) k None) (zeroth (length older) at here); first = eqb-true link.first.0 event first }
      where
        zeroth : (n k : ℕ) → n ≡ k → suc n - 1 - k ≡ 0
        zeroth n k same = omega (arith, same)
    one false first is rest = found_behind (Some link) older event at (rest is)

pub found : (links : List (Option Link)) (event at : ℕ) → newest_of links event ≡ Some at → IsFound links event at
found links event at is =
    let in_newest = found_in (reverse links) event at is in
    let size = length-reverse links in
    let below : at < length links = omega (arith, in_newest.below, size) in
    record { link = in_newest.link; below = below; is = ap (λ l. get_or l at None) (sym (reverse-reverse links)) ∙ get_or-reverse (reverse links) at None in_newest.below ∙ in_newest.is; first = in_newest.first }

-- the second cell's count is that of the predecessors of its event, of which there are no more than pairs
pub second_few : (cells : Slab Cell) (links : List (Option Link)) (from to a b : ℕ) (first second : Cell) (start : Option ℕ) → AreLinked cells links → AreEnds cells from to a b first second start → second.in_count ≤ length (pairs_in links)
second_few cells links from to a b first second start linked ends =
    let was = (changed cells links from to a b first second start 0 linked ends).second_was in
    omega (arith, linked.ins to second was, count_by-le-length (λ (pair : ℕ × ℕ). eqb pair.1 second.event.0) (pairs_in links))
