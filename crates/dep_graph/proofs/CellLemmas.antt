-- What a cell holds, and that a change of its cell leaves an event where it is.
use Rattle.std.proofs.Common.{◌≡◌, ℕ, ◌+◌, ◌<◌, cond, length, get_or, set, refl, sym, ap, ◌∙◌, inl, inr, arith}
use Rattle.std.proofs.Math.ListN.{get_or-map}
use Rattle.std.proofs.Math.Seq.{map-set_same}
use Rattle.std.specs.Prelude.{Option, None, Some, is_some}
use Rattle.std.specs.List.{sum_by}
use Rattle.std.proofs.lemmas.Bool.{cases_lt}
use Rattle.std.proofs.lemmas.List.Sums.{sum_by-set}
use Rattle.std.proofs.lemmas.List.{get_or_past, get_or-set_same, get_or-set_other}
use Rattle.std.proofs.lemmas.Option.{none-some, same_Some}
use Rattle.slab.specs.Slab.{Slab, get, slab_len, with_value}
use Rattle.dep_graph.specs.declared.graph.Cell.{Cell}
use Rattle.dep_graph.specs.GraphView.{event_at}
use Rattle.dep_graph.specs.Links.{slot_of, slots_of}

-- what stands under a key is seen as its event
pub event_at-slots : (cells : Slab Cell) (key : ℕ) → event_at (slots_of cells) key ≡ slot_of (get cells key)
event_at-slots cells key = get_or-map slot_of cells.slots key None

-- there is a cell of the event under the key
pub record Holds (cells : Slab Cell) (key event : ℕ) : Type 0 where
  pub cell : Cell
  pub at : get cells key ≡ Some cell
  pub named : cell.event.0 ≡ event

pub holds : (cells : Slab Cell) (key event : ℕ) → event_at (slots_of cells) key ≡ Some event → Holds cells key event
holds cells key event is = by_slot (get cells key) refl (sym (event_at-slots cells key) ∙ is)
  where
    by_slot : (slot : Option Cell) → get cells key ≡ slot → slot_of slot ≡ Some event → Holds cells key event
    by_slot None at none = absurd (none-some event none)
    by_slot (Some cell) at same = record { cell = cell; at = at; named = same_Some cell.event.0 event same }

pub event_at-cell : (cells : Slab Cell) (key : ℕ) (cell : Cell) → get cells key ≡ Some cell → event_at (slots_of cells) key ≡ Some cell.event.0
event_at-cell cells key cell at = event_at-slots cells key ∙ ap slot_of at

-- a key with a cell is below the slots
pub in_slots : (cells : Slab Cell) (key : ℕ) (cell : Cell) → get cells key ≡ Some cell → key < length cells.slots
in_slots cells key cell at =
    elim (cases_lt key (length cells.slots)) [
      | inl below ↦ below
      | inr past ↦ absurd (none-some cell (sym (get_or_past cells.slots key None past) ∙ at))
    ]

-- a cell that is written over
pub get-with_same : (cells : Slab Cell) (key : ℕ) (old new : Cell) → get cells key ≡ Some old → get (with_value cells key new) key ≡ Some new
get-with_same cells key old new at = get_or-set_same cells.slots key (Some new) None (in_slots cells key old at)

pub get-with_other : (cells : Slab Cell) (key other : ℕ) (new : Cell) → (other ≡ key → ⊥) → get (with_value cells key new) other ≡ get cells other
get-with_other cells key other new apart = get_or-set_other cells.slots key other (Some new) None apart

-- a cell that is written over with one of the same event
pub slots_of-with : (cells : Slab Cell) (key : ℕ) (old new : Cell) → get cells key ≡ Some old → new.event.0 ≡ old.event.0 → slots_of (with_value cells key new) ≡ slots_of cells
slots_of-with cells key old new at same = map-set_same slot_of cells.slots key (Some new) None (ap Some same ∙ sym (ap slot_of at))

pub slab_len-with : (cells : Slab Cell) (key : ℕ) (old new : Cell) → get cells key ≡ Some old → slab_len (with_value cells key new) ≡ slab_len cells
slab_len-with cells key old new at =
    let weight : Option Cell → ℕ = λ slot. cond (is_some slot) 1 0 in
    let both : sum_by weight (set cells.slots key (Some new)) + weight (get_or cells.slots key None) ≡ sum_by weight cells.slots + weight (Some new) = sum_by-set weight cells.slots key (Some new) None (in_slots cells key old at) in
    let one : weight (get_or cells.slots key None) ≡ 1 = ap weight at in
    omega (arith, both, one)
