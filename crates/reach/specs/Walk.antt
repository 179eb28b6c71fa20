-- What a search has come to: the events that it has found, and what is known of the pairs that it has looked at.
use Rattle.std.specs.Prelude.{◌≡◌, ◌+◌, ◌<◌, ◌≤◌, ◌++◌, ℕ, true, false, ◌||◌, ◌==◌, if◌then◌else◌, Option, IsSome, unwrap_or, List, length, map, nat_eq}
use Rattle.std.specs.Prelude.{sum_by, take}
use Rattle.std.specs.List.{All, IsDistinct}
use Rattle.kr_order.specs.Order.{reach}
use Rattle.dep_graph.specs.GraphView.{GraphView, event_at, outs_of}
use Rattle.reach.specs.Finds.{Finds, is_in, with}

-- the event in the cell
abbrev pub event_of : List (Option ℕ) → ℕ → ℕ
event_of slots cell = unwrap_or (event_at slots cell) 0

-- the events in the cells
abbrev pub events_of : List (Option ℕ) → List ℕ → List ℕ
events_of slots cells = map (event_of slots) cells

-- the events that a search in the graph has found
abbrev pub events_in : GraphView → Finds → List ℕ
events_in graph found = events_of graph.slots found.cells

-- the successors of the event in the cell
abbrev pub outs_at : GraphView → ℕ → List ℕ
outs_at graph cell = outs_of graph.pairs (event_of graph.slots cell)

-- an event stands in each of the cells, and no cell is there twice
pub record ArePlaced (slots : List (Option ℕ)) (cells : List ℕ) : Type 0 where
  pub each : All (λ cell. IsSome (event_at slots cell)) cells
  pub distinct : IsDistinct nat_eq cells

-- each event is a, or behind a in the order
pub record AreFrom (order : List (ℕ × ℕ)) (a : ℕ) (found : List ℕ) : Type 0 where
  pub each : (event : ℕ) → is_in found event ≡ true → (a == event || reach order a event) ≡ true

-- the events with the pair's second one, where its first was found
abbrev pub led_by : ℕ × ℕ → List ℕ → List ℕ
led_by pair found = if is_in found pair.0 then with found pair.1 else found

-- the order has each pair's first event before its second
abbrev pub AreSaid : List (ℕ × ℕ) → List (ℕ × ℕ) → Type 0
AreSaid order pairs = All (λ pair. reach order pair.0 pair.1 ≡ true) pairs

-- the pairs lead from the old events to the new ones
pub record LeadsTo (pairs : List (ℕ × ℕ)) (old new : List ℕ) : Type 0 where
  pub from : (order : List (ℕ × ℕ)) (a : ℕ) → AreSaid order pairs → AreFrom order a old → AreFrom order a new

-- the pairs lead from the events to the goal
pub record Meets (pairs : List (ℕ × ℕ)) (found : List ℕ) (goal : ℕ) : Type 0 where
  pub from : (order : List (ℕ × ℕ)) (a : ℕ) → AreSaid order pairs → AreFrom order a found → reach order a goal ≡ true

-- the event was found, and is not the goal
pub record IsFoundBefore (goal : ℕ) (found : List ℕ) (event : ℕ) : Type 0 where
  pub there : is_in found event ≡ true
  pub other : (event == goal) ≡ false

-- where the pair's first event is one of those that were taken up, its second was found before the goal
pub record IsFollowed (goal : ℕ) (taken found : List ℕ) (pair : ℕ × ℕ) : Type 0 where
  pub on : is_in taken pair.0 ≡ true → IsFoundBefore goal found pair.1

-- so it is for all pairs
abbrev pub AreFollowed : List (ℕ × ℕ) → ℕ → List ℕ → List ℕ → Type 0
AreFollowed pairs goal taken found = All (IsFollowed goal taken found) pairs

-- the search has followed the pairs of the first i events that it found, and where these are all, the extra pairs too
pub record IsUnderWay (graph : GraphView) (extra : List (ℕ × ℕ)) (a goal : ℕ) (cells : List ℕ) (i : ℕ) : Type 0 where
  pub behind : AreFrom (graph.pairs ++ extra) a (events_of graph.slots cells)
  pub start : is_in (events_of graph.slots cells) a ≡ true
  pub followed : AreFollowed graph.pairs goal (take i (events_of graph.slots cells)) (events_of graph.slots cells)
  pub extra_followed : length cells ≤ i → AreFollowed extra goal (events_of graph.slots cells) (events_of graph.slots cells)
  pub placed : ArePlaced graph.slots cells
  pub within : i ≤ length cells
  pub some : 0 < length cells

-- the pair's second event was found, if its first was
pub record IsLed (found : List ℕ) (pair : ℕ × ℕ) : Type 0 where
  pub on : is_in found pair.0 ≡ true → is_in found pair.1 ≡ true

-- what was found is a, and what lies behind it in the order; and all that the graph's pairs lead to from there was found
pub record IsKept (graph : GraphView) (order : List (ℕ × ℕ)) (a : ℕ) (cells : List ℕ) : Type 0 where
  pub behind : AreFrom order a (events_of graph.slots cells)
  pub start : is_in (events_of graph.slots cells) a ≡ true
  pub closed : All (IsLed (events_of graph.slots cells)) graph.pairs
  pub placed : ArePlaced graph.slots cells

-- the steps for events that are taken up, one for each, and their pairs, one for each
abbrev pub steps_of : List (ℕ × ℕ) → List ℕ → ℕ
steps_of pairs taken = sum_by (λ event. length (outs_of pairs event) + 1) taken

-- the steps for all events that a search in the graph has found, and for the first of them
abbrev pub steps_in : GraphView → Finds → ℕ
steps_in graph found = steps_of graph.pairs (events_in graph found)

abbrev pub steps_before : GraphView → Finds → ℕ → ℕ
steps_before graph found n = steps_of graph.pairs (take n (events_in graph found))
