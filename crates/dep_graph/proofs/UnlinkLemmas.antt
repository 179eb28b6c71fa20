-- The newest link of the event in a cell, and what taking it out does.
use Rattle.std.proofs.Common.{◌≡◌, ℕ, ◌+◌, ◌-◌, ◌<◌, ◌≤◌, Bool, true, false, cond, eqb, List, [], ◌∷◌, ◌++◌, length, get_or, set, refl, sym, ap, ◌∙◌, subst, inl, inr, arith, length-append}
use Rattle.std.specs.Prelude.{Option, None, Some, IsSome, is_some, map, reverse}
use Rattle.std.specs.List.{All}
use Rattle.std.proofs.lemmas.Option.{none-some, same_Some}
use Rattle.std.proofs.lemmas.Bool.{eq-eqb, eqb-false, ne_eqb}
use Rattle.std.proofs.lemmas.List.{get_or_at, get_or_default, get_or_read}
use Rattle.slab.specs.Slab.{Slab, get, with_value}
use Rattle.dep_graph.specs.declared.outs.Link.{Link}
use Rattle.dep_graph.specs.declared.graph.Cell.{Cell}
use Rattle.dep_graph.specs.GraphView.{event_at, outs_of, ins_of}
use Rattle.dep_graph.specs.Links.{pair_of, pairs_in, chain, newest_of, slots_of, JoinsCells, IsBetween, AreLinked, IsTakenOut}
use Rattle.dep_graph.proofs.ChainLemmas.{cut, chain-newest, chain_in-none}
use Rattle.dep_graph.proofs.CellLemmas.{Holds, holds, event_at-cell, get-with_other}
use Rattle.dep_graph.proofs.PairLemmas.{ins-between}
use Rattle.dep_graph.proofs.DropLemmas.{IsGap, gap}
use Rattle.dep_graph.proofs.LinkLemmas.{started, counted, AreEnds, IsFound, found}

-- an event without a newest link has no successor
pub no_outs : (cells : Slab Cell) (links : List (Option Link)) (key : ℕ) (cell : Cell) → AreLinked cells links → get cells key ≡ Some cell → cell.newest ≡ None → (event : ℕ) → event_at (slots_of cells) key ≡ Some event → outs_of (pairs_in links) event ≡ []
no_outs cells links key cell linked at none event is =
    let named : cell.event.0 ≡ event = same_Some cell.event.0 event (sym (event_at-cell cells key cell at) ∙ is) in
    let newest : newest_of links event ≡ None = ap (newest_of links) (sym named) ∙ sym (linked.newest key cell at) ∙ none in
    sym (chain-newest links event linked.chained) ∙ ap (λ start. map (λ (out : ℕ × ℕ). out.1) (chain links start)) newest ∙ ap (map (λ (out : ℕ × ℕ). out.1)) (chain_in-none (reverse links))

-- the index of an event's newest link is that of a link
pub start_below : (cells : Slab Cell) (links : List (Option Link)) (key at : ℕ) (cell : Cell) → AreLinked cells links → get cells key ≡ Some cell → cell.newest ≡ Some at → at < length links
start_below cells links key at cell linked in_key newest =
    (found links cell.event.0 at (sym (linked.newest key cell in_key) ∙ newest)).below

pub start_some : (cells : Slab Cell) (links : List (Option Link)) (key at : ℕ) (cell : Cell) → AreLinked cells links → get cells key ≡ Some cell → cell.newest ≡ Some at → IsSome (get_or links at None)
start_some cells links key at cell linked in_key newest =
    ap is_some (found links cell.event.0 at (sym (linked.newest key cell in_key) ∙ newest)).is

-- the link is the newest of the event in the cell
pub record IsStart (cells : Slab Cell) (links : List (Option Link)) (key at : ℕ) (link : Link) : Type 0 where
  pub first_at : event_at (slots_of cells) key ≡ Some link.first.0
  pub second_at : event_at (slots_of cells) link.to ≡ Some link.second.0
  pub apart : eqb link.first.0 link.second.0 ≡ false
  pub gap : IsGap links at link

pub start : (cells : Slab Cell) (links : List (Option Link)) (key at : ℕ) (cell : Cell) (link : Link) → AreLinked cells links → All (λ pair. pair.0 ≡ pair.1 → ⊥) (pairs_in links) → get cells key ≡ Some cell → cell.newest ≡ Some at → get_or links at None ≡ Some link → IsStart cells links key at link
start cells links key at cell link linked apart in_key newest here =
    let there = found links cell.event.0 at (sym (linked.newest key cell in_key) ∙ newest) in
    let one : there.link ≡ link = same_Some there.link link (sym there.is ∙ here) in
    let first : link.first.0 ≡ cell.event.0 = ap (λ (l : Link). l.first.0) (sym one) ∙ there.first in
    let parts = cut links at (Some link) there.below (get_or_default links at (Some link) None there.below ∙ here) in
    let gone = gap links at link linked.chained parts (ap (newest_of links) first ∙ sym (linked.newest key cell in_key) ∙ newest) in
    let between : IsBetween cells link = subst (JoinsCells cells) here (linked.leads at None there.below) in
    let n = length gone.front in
    let inside : n < length (pairs_in links) = omega (arith, ap length gone.was, length-append gone.front (pair_of link ∷ gone.back)) in
    let pair : get_or (pairs_in links) n (0, 0) ≡ pair_of link = ap (λ pairs. get_or pairs n (0, 0)) gone.was ∙ get_or_at gone.front (pair_of link) gone.back (0, 0) n refl in
    record {
      first_at = event_at-cell cells key cell in_key ∙ ap Some (sym first);
      second_at = between.to;
      apart = ne_eqb link.first.0 link.second.0 (λ same. apart n (0, 0) inside (ap (λ (p : ℕ × ℕ). p.0) pair ∙ same ∙ ap (λ (p : ℕ × ℕ). p.1) (sym pair)));
      gap = gone;
    }

-- the pair of the link is taken out
pub taken_out : (cells : Slab Cell) (links : List (Option Link)) (key at : ℕ) (link : Link) → IsStart cells links key at link → IsTakenOut link.first.0 link.second.0 (pairs_in links) (pairs_in (set links at None))
taken_out cells links key at link is =
    record { front = is.gap.front; back = is.gap.back; was = is.gap.was; is = is.gap.is; outs = is.gap.outs }

-- its second event stands in another cell
pub second_other : (cells : Slab Cell) (links : List (Option Link)) (key at : ℕ) (link : Link) → IsStart cells links key at link → link.to ≡ key → ⊥
second_other cells links key at link is same =
    eqb-false link.first.0 link.second.0 is.apart (same_Some link.first.0 link.second.0 (sym is.first_at ∙ ap (event_at (slots_of cells)) (sym same) ∙ is.second_at))

pub second_some : (cells : Slab Cell) (links : List (Option Link)) (key at : ℕ) (link : Link) (new : Cell) → IsStart cells links key at link → IsSome (get (with_value cells key new) link.to)
second_some cells links key at link new is =
    ap is_some (get-with_other cells key link.to new (second_other cells links key at link is) ∙ (holds cells link.to link.second.0 is.second_at).at)

pub start_ends : (cells : Slab Cell) (links : List (Option Link)) (key at : ℕ) (link : Link) (first second : Cell) → IsStart cells links key at link → get cells key ≡ Some first → get (with_value cells key (started first link.next)) link.to ≡ Some second → AreEnds cells key link.to link.first.0 link.second.0 first second link.next
start_ends cells links key at link first second is in_key in_to =
    record { in_from = in_key; in_to = in_to; at_from = is.first_at; at_to = is.second_at; apart = is.apart }

-- its second event has a predecessor
pub second_counts : (cells : Slab Cell) (links : List (Option Link)) (key at : ℕ) (link : Link) (new second : Cell) → AreLinked cells links → IsStart cells links key at link → get (with_value cells key new) link.to ≡ Some second → 1 ≤ second.in_count
second_counts cells links key at link new second linked is in_to =
    let was : get cells link.to ≡ Some second = sym (get-with_other cells key link.to new (second_other cells links key at link is)) ∙ in_to in
    let named : second.event.0 ≡ link.second.0 = same_Some second.event.0 link.second.0 (sym (event_at-cell cells link.to second was) ∙ is.second_at) in
    let count = linked.ins link.to second was ∙ ap (λ pairs. ins_of pairs second.event.0) is.gap.was ∙ ins-between is.gap.front is.gap.back link.first.0 link.second.0 second.event.0 ∙ ap (λ t. ins_of (is.gap.front ++ is.gap.back) second.event.0 + cond t 1 0) (eq-eqb link.second.0 second.event.0 (sym named)) in
    omega (arith, count)

-- the same, by what was read at the index
pub start_read : (cells : Slab Cell) (links : List (Option Link)) (key at : ℕ) (cell : Cell) (slot : Option Link) (link : Link) → AreLinked cells links → All (λ pair. pair.0 ≡ pair.1 → ⊥) (pairs_in links) → get cells key ≡ Some cell → cell.newest ≡ Some at → slot ≡ get_or links at slot → slot ≡ Some link → IsStart cells links key at link
start_read cells links key at cell slot link linked apart in_key newest read is =
    start cells links key at cell link linked apart in_key newest (sym (get_or_read links at slot (start_below cells links key at cell linked in_key newest) read None) ∙ is)

pub slot_some : (cells : Slab Cell) (links : List (Option Link)) (key at : ℕ) (cell : Cell) (slot : Option Link) → AreLinked cells links → get cells key ≡ Some cell → cell.newest ≡ Some at → slot ≡ get_or links at slot → IsSome slot
slot_some cells links key at cell slot linked in_key newest read =
    subst IsSome (sym (get_or_read links at slot (start_below cells links key at cell linked in_key newest) read None)) (start_some cells links key at cell linked in_key newest)
