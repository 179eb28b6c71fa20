-- What is still held of the order once all that no live event needs has been collected.
use Rattle.std.specs.Prelude.{ℕ, Bool, ◌&&◌, ◌||◌, ◌==◌, List, filter}
use Rattle.std.specs.List.{list_any}
use Rattle.kr_order.specs.declared.history.Entry.{Entry}
use Rattle.kr_order.specs.Numbers.{numbers_to}
use Rattle.kr_order.specs.Order.{reach}
use Rattle.kr_order.specs.Agreed.{Agreed, is_live, agreed_of}

-- the event is held by a live one: it is that event, or that event is before it
abbrev pub holds : Agreed → ℕ → ℕ → Bool
holds agreed event root = is_live agreed root && (root == event || reach agreed.pairs root event)

-- the event is held: some live event holds it
abbrev pub is_held_in : Agreed → ℕ → Bool
is_held_in agreed event = list_any (holds agreed event) (numbers_to agreed.born)

-- so it is after the history
abbrev pub is_held : List Entry → ℕ → Bool
is_held history event = is_held_in (agreed_of history) event

-- the held events after the history, the smallest first
abbrev pub held_events : List Entry → List ℕ
held_events history = filter (is_held history) (numbers_to (agreed_of history).born)

-- the pairs whose first event is held, the oldest first
abbrev pub held_pairs : List Entry → List (ℕ × ℕ)
held_pairs history = filter (λ pair. is_held history pair.0) (agreed_of history).pairs
