-- Which events of a graph are needed, and which of them may have to be collected.
use Rattle.std.specs.Prelude.{◌≡◌, ◌<◌, ◌⊎◌, ℕ, Bool, true, false, ◌&&◌, ◌||◌, ◌==◌, nat_lt, List}
use Rattle.std.specs.List.{All, AllPairs, filter, list_any}
use Rattle.kr_order.specs.Order.{reach}
use Rattle.dep_graph.specs.GraphView.{is_held, ins_of}
use Rattle.ref_collect.specs.Counts.{count_of}

-- the root is live, and it is the event or is before it
abbrev pub holds : List (ℕ × ℕ) → List (ℕ × ℕ) → ℕ → ℕ → Bool
holds counts pairs event root = nat_lt 0 (count_of counts root) && (root == event || reach pairs root event)

-- a live event of the list holds the event
abbrev pub is_needed : List (ℕ × ℕ) → List (ℕ × ℕ) → List ℕ → ℕ → Bool
is_needed counts pairs vertices event = list_any (holds counts pairs event) vertices

-- the events that are needed, and the pairs whose first event is
abbrev pub needed_events : List (ℕ × ℕ) → List (ℕ × ℕ) → List ℕ → List ℕ
needed_events counts pairs vertices = filter (is_needed counts pairs vertices) vertices

abbrev pub needed_pairs : List (ℕ × ℕ) → List (ℕ × ℕ) → List ℕ → List (ℕ × ℕ)
needed_pairs counts pairs vertices = filter (λ pair. is_needed counts pairs vertices pair.0) pairs

-- each held event without a predecessor is live, but for this one
abbrev pub AreKeptBut : List (ℕ × ℕ) → List (ℕ × ℕ) → List ℕ → ℕ → Type 0
AreKeptBut counts pairs vertices from =
    (event : ℕ) → is_held vertices event ≡ true → (event == from) ≡ false → ins_of pairs event ≡ 0 → 0 < count_of counts event

-- each held event without a predecessor is live
abbrev pub AreKept : List (ℕ × ℕ) → List (ℕ × ℕ) → List ℕ → Type 0
AreKept counts pairs vertices =
    (event : ℕ) → is_held vertices event ≡ true → ins_of pairs event ≡ 0 → 0 < count_of counts event

-- each held event without a predecessor is live or waits, and no other event waits, nor one twice
pub record AreWaiting (counts pairs : List (ℕ × ℕ)) (vertices waiting : List ℕ) : Type 0 where
  pub all : (event : ℕ) → is_held vertices event ≡ true → ins_of pairs event ≡ 0 → (0 < count_of counts event)
      ⊎ (is_held waiting event ≡ true)
  pub held : All (λ event. is_held vertices event ≡ true) waiting
  pub sources : All (λ event. ins_of pairs event ≡ 0) waiting
  pub distinct : AllPairs (λ a b. a ≡ b → ⊥) waiting

-- the same events and pairs are needed
pub record NeedsTheSame (counts old_pairs : List (ℕ × ℕ)) (old_vertices : List ℕ) (new_pairs : List (ℕ × ℕ)) (vertices : List ℕ)
    : Type 0 where
  pub events : needed_events counts new_pairs vertices ≡ needed_events counts old_pairs old_vertices
  pub pairs : needed_pairs counts new_pairs vertices ≡ needed_pairs counts old_pairs old_vertices
