-- What contracts see of the order that a state keeps.
use Rattle.std.specs.Prelude.{◌≡◌, ◌<◌, ℕ, ◌+◌, ◌^◌, ◌==◌, if◌then◌else◌, List, [], ◌∷◌, ◌++◌}
use Rattle.std.specs.List.{All}
use Rattle.kr_order.specs.declared.history.Command.{Command}
use Rattle.kr_order.specs.declared.history.Command.TheVariants.{Create, Assign, Acquire, Release}
use Rattle.kr_order.specs.declared.history.Entry.{Entry}
use Rattle.kr_order.specs.History.{births_of, born_in}
use Rattle.kr_order.specs.References.{count_in}
use Rattle.kr_order.specs.Held.{held_events, held_pairs}
use Rattle.kr_order.specs.Agreed.{Agreed, count_after, pairs_after}
use Rattle.dep_graph.specs.GraphView.{GraphView}
use Rattle.ref_collect.specs.Counts.{count_of}
use Rattle.ref_collect.specs.Needed.{needed_events, needed_pairs, AreKept}
use Rattle.batch_assign.specs.Plan.{LiveAreHeld}

-- how many events were made, the references of each, the events and the pairs that are held, how many cells the
-- order has, and how many more events and pairs it can take without memory
pub record Ordered : Type 0 where
  pub born : ℕ
  pub counts : List (ℕ × ℕ)
  pub events : List ℕ
  pub pairs : List (ℕ × ℕ)
  pub cells : ℕ
  pub event_room : ℕ
  pub pair_room : ℕ

-- what is agreed on, as far as it is held
abbrev pub agreed_in : Ordered → Agreed
agreed_in order = record { born = order.born; count = count_of order.counts; pairs = order.pairs }

-- the held events after a command, where these are the references after it: a create adds its event, and the release
-- of an event's last reference leaves what a live event needs
abbrev pub events_after : Command → Ordered → List (ℕ × ℕ) → List ℕ
events_after Create order counts = order.events ++ (order.born + 1) ∷ []
events_after (Assign batch) order counts = order.events
events_after (Acquire event) order counts = order.events
events_after (Release event) order counts =
    if count_of order.counts event.0 == 1 then needed_events counts order.pairs order.events
    else order.events

-- the held pairs after it: a batch that is accepted adds its own, and a release leaves those of the events it leaves
abbrev pub held_after : Command → Ordered → List (ℕ × ℕ) → List (ℕ × ℕ)
held_after Create order counts = order.pairs
held_after (Assign batch) order counts = pairs_after (Assign batch) (agreed_in order)
held_after (Acquire event) order counts = order.pairs
held_after (Release event) order counts =
    if count_of order.counts event.0 == 1 then needed_pairs counts order.pairs order.events
    else order.pairs

-- what the command makes of an order
pub record Becomes (command : Command) (old new : Ordered) : Type 0 where
  pub born : new.born ≡ births_of command + old.born
  pub count : (event : ℕ) →
      count_of new.counts event ≡ count_after command old.born event (count_of old.counts event)
  pub events : new.events ≡ events_after command old new.counts
  pub pairs : new.pairs ≡ held_after command old new.counts

-- no count is the greatest number of its type
abbrev pub CanCountOn : Ordered → Type 0
CanCountOn order = (event : ℕ) → count_of order.counts event + 1 < 2 ^ 64

-- live events are held, held events without a predecessor are live, no event has a greater number than the last that
-- was made, and none is left to be collected
pub record IsOrder (born : ℕ) (counts : List (ℕ × ℕ)) (graph : GraphView) : Type 0 where
  pub live : LiveAreHeld counts graph.vertices
  pub kept : AreKept counts graph.pairs graph.vertices
  pub below : All (λ vertex. vertex < born + 1) graph.vertices
  pub latest : All (λ entry. entry.0 < born + 1) counts
  pub bare : graph.bare ≡ []

-- the order is what is held of the history
pub record IsOrderOf (history : List Entry) (order : Ordered) : Type 0 where
  pub born : order.born ≡ born_in history
  pub count : (event : ℕ) → count_of order.counts event ≡ count_in history event
  pub events : order.events ≡ held_events history
  pub pairs : order.pairs ≡ held_pairs history
