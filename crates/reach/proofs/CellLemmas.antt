-- The events in the cells that a search has found.
use Rattle.std.proofs.Common.{◌≡◌, ℕ, ◌<◌, Bool, true, false, cond, eqb, List, [], ◌∷◌, ◌++◌, length, refl, sym, ap, ◌∙◌, subst, inl, inr}
use Rattle.std.specs.Prelude.{Option, None, Some, IsSome, unwrap_or}
use Rattle.std.specs.List.{All, IsDistinct}
use Rattle.std.proofs.lemmas.Bool.{cases_lt}
use Rattle.std.proofs.lemmas.List.{get_or_past, map-append}
use Rattle.std.proofs.lemmas.List.Elements.{All-append, All-cons, All-nil}
use Rattle.dep_graph.specs.GraphView.{event_at}
use Rattle.reach.specs.Finds.{is_in, with}
use Rattle.reach.specs.Walk.{event_of, events_of, ArePlaced}
use Rattle.reach.proofs.MemberLemmas.{both_true, is_in-all, is_in-map, is_in-map_from, IsInjective, IsDistinct-map, IsDistinct-with}

-- each event stands in one cell only
pub record StandOnce (slots : List (Option ℕ)) : Type 0 where
  pub one : (c d event : ℕ) → event_at slots c ≡ Some event → event_at slots d ≡ Some event → c ≡ d

-- the event of a cell that holds one
pub event_at-some : (slots : List (Option ℕ)) (cell : ℕ) → IsSome (event_at slots cell) → event_at slots cell ≡ Some (event_of slots cell)
event_at-some slots cell some = by_option (event_at slots cell) some
  where
    by_option : (o : Option ℕ) → IsSome o → o ≡ Some (unwrap_or o 0)
    by_option None never = cc
    by_option (Some event) _ = refl

-- a cell that holds an event is one of the slots
pub event_at-below : (slots : List (Option ℕ)) (cell event : ℕ) → event_at slots cell ≡ Some event → cell < length slots
event_at-below slots cell event at =
    elim (cases_lt cell (length slots)) [
      | inl below ↦ below
      | inr past ↦
          let none : event_at slots cell ≡ None = get_or_past slots cell None past in
          cc
    ]

-- cells that hold events hold different ones
events_apart : (slots : List (Option ℕ)) (cells : List ℕ) → StandOnce slots → ArePlaced slots cells → IsInjective (event_of slots) cells
events_apart slots cells once placed =
    record {
      one = λ c d in_c in_d same.
          let at_c = event_at-some slots c (is_in-all cells c (λ x. IsSome (event_at slots x)) placed.each in_c) in
          let at_d = event_at-some slots d (is_in-all cells d (λ x. IsSome (event_at slots x)) placed.each in_d) in
          once.one c d (event_of slots d) (at_c ∙ ap Some same) at_d;
    }

-- the events of different cells are different
pub IsDistinct-events : (slots : List (Option ℕ)) (cells : List ℕ) → StandOnce slots → ArePlaced slots cells → IsDistinct eqb (events_of slots cells)
IsDistinct-events slots cells once placed = IsDistinct-map (event_of slots) cells (events_apart slots cells once placed) placed.distinct

-- an event was found if its cell was
pub is_in-events : (slots : List (Option ℕ)) (cells : List ℕ) (cell event : ℕ) → StandOnce slots → ArePlaced slots cells → event_at slots cell ≡ Some event → is_in (events_of slots cells) event ≡ is_in cells cell
is_in-events slots cells cell event once placed at =
    both_true (is_in (events_of slots cells) event) (is_in cells cell) back there
  where
    is_event : event_of slots cell ≡ event
    is_event = ap (λ o. unwrap_or o 0) at

    there : is_in cells cell ≡ true → is_in (events_of slots cells) event ≡ true
    there in_cells = subst (λ e. is_in (events_of slots cells) e ≡ true) is_event (is_in-map (event_of slots) cells cell in_cells)

    back : is_in (events_of slots cells) event ≡ true → is_in cells cell ≡ true
    back in_events =
        let given = is_in-map_from (event_of slots) cells event in_events in
        let at_given = event_at-some slots given.x (is_in-all cells given.x (λ x. IsSome (event_at slots x)) placed.each given.there) in
        subst (λ c. is_in cells c ≡ true) (once.one given.x cell event (at_given ∙ ap Some given.gives) at) given.there

-- the events of a cell more
pub events_of-with : (slots : List (Option ℕ)) (cells : List ℕ) (cell event : ℕ) → StandOnce slots → ArePlaced slots cells → event_at slots cell ≡ Some event → events_of slots (with cells cell) ≡ with (events_of slots cells) event
events_of-with slots cells cell event once placed at =
    by_test (is_in cells cell) ∙ ap (λ test. cond test (events_of slots cells) (events_of slots cells ++ event ∷ [])) (sym (is_in-events slots cells cell event once placed at))
  where
    by_test : (test : Bool) → events_of slots (cond test cells (cells ++ cell ∷ [])) ≡ cond test (events_of slots cells) (events_of slots cells ++ event ∷ [])
    by_test true = refl
    by_test false = map-append (event_of slots) cells (cell ∷ []) ∙ ap (λ e. events_of slots cells ++ e ∷ []) (ap (λ o. unwrap_or o 0) at)

-- a cell that holds an event goes with them
pub ArePlaced-with : (slots : List (Option ℕ)) (cells : List ℕ) (cell : ℕ) → ArePlaced slots cells → IsSome (event_at slots cell) → ArePlaced slots (with cells cell)
ArePlaced-with slots cells cell placed some =
    record {
      each =
          elim (is_in cells cell) as (λ there. All (λ c. IsSome (event_at slots c)) (cond there cells (cells ++ cell ∷ []))) [
            | true ↦ placed.each
            | false ↦ All-append (λ c. IsSome (event_at slots c)) cells (cell ∷ []) placed.each (All-cons (λ c. IsSome (event_at slots c)) cell [] some (All-nil (λ c. IsSome (event_at slots c))))
          ];
      distinct = IsDistinct-with cells cell placed.distinct;
    }

-- the first cell
pub ArePlaced-one : (slots : List (Option ℕ)) (cell : ℕ) → IsSome (event_at slots cell) → ArePlaced slots (cell ∷ [])
unfolding IsDistinct
ArePlaced-one slots cell some =
    record { each = All-cons (λ c. IsSome (event_at slots c)) cell [] some (All-nil (λ c. IsSome (event_at slots c))); distinct = (tt, tt) }
