-- What contracts see of a graph of events.
use Rattle.std.specs.Prelude.{◌≡◌, ◌≢◌, ◌<◌, ℕ, Bool, true, false, not, ◌&&◌, ◌==◌, Option, None, Some, List, [], ◌∷◌, ◌++◌, map, reverse}
use Rattle.std.specs.Prelude.{count_by, slice_index_or}
use Rattle.std.specs.List.{All, AllPairs, filter, list_any}
use Rattle.kr_order.specs.Order.{reach, IsAcyclic}

-- the held events, the smallest first; the pairs, the oldest first; the bare events, which lost their last
-- predecessor by a removal, in the order in which they lost it; how many more events and pairs can be added without
-- memory; and the event that each cell holds, if it holds one
pub record GraphView : Type 0 where
  pub vertices : List ℕ
  pub pairs : List (ℕ × ℕ)
  pub bare : List ℕ
  pub spare_vertices : ℕ
  pub spare_pairs : ℕ
  pub slots : List (Option ℕ)

-- the event is held
abbrev pub is_held : List ℕ → ℕ → Bool
is_held vertices event = list_any (λ vertex. vertex == event) vertices

-- the event that the cell holds, if it holds one
abbrev pub event_at : List (Option ℕ) → ℕ → Option ℕ
event_at slots cell = slice_index_or slots cell None

-- the pair from a to b is there
abbrev pub has_pair : List (ℕ × ℕ) → ℕ → ℕ → Bool
has_pair pairs a b = list_any (λ pair. pair.0 == a && pair.1 == b) pairs

-- the event's successors: the seconds of the pairs whose first it is, the newest pair's first
abbrev pub outs_of : List (ℕ × ℕ) → ℕ → List ℕ
outs_of pairs event = map (λ pair. pair.1) (filter (λ pair. pair.0 == event) (reverse pairs))

-- how many pairs have the event as their second
abbrev pub ins_of : List (ℕ × ℕ) → ℕ → ℕ
ins_of pairs event = count_by (λ pair. pair.1 == event) pairs

-- the events but this one
abbrev pub without : List ℕ → ℕ → List ℕ
without events event = filter (λ other. not (other == event)) events

-- the pairs but those whose first is the event
abbrev pub pairs_without : List (ℕ × ℕ) → ℕ → List (ℕ × ℕ)
pairs_without pairs event = filter (λ pair. not (pair.0 == event)) pairs

-- the successors of the event that have no predecessor without it, that of its newest pair first
abbrev pub bared_by : List (ℕ × ℕ) → ℕ → List ℕ
bared_by pairs event = filter (λ other. ins_of (pairs_without pairs event) other == 0) (outs_of pairs event)

-- both events of the pair are held
pub record JoinsHeld (vertices : List ℕ) (pair : ℕ × ℕ) : Type 0 where
  pub first : is_held vertices pair.0 ≡ true
  pub second : is_held vertices pair.1 ≡ true

-- the pair from a to b can be added
pub record CanAdd (vertices : List ℕ) (pairs : List (ℕ × ℕ)) (a b : ℕ) : Type 0 where
  pub first : is_held vertices a ≡ true
  pub second : is_held vertices b ≡ true
  pub apart : (a == b) ≡ false
  pub is_new : has_pair pairs a b ≡ false
  pub not_back : reach pairs b a ≡ false

-- the pairs can be added one after the other
abbrev pub CanAddAll : List ℕ → List (ℕ × ℕ) → List (ℕ × ℕ) → Type 0
CanAddAll vertices pairs [] = Unit {0}
CanAddAll vertices pairs (pair ∷ more) = CanAdd vertices pairs pair.0 pair.1 × CanAddAll vertices (pairs ++ pair ∷ []) more

-- the held events rise, the pairs are apart, join held events and close no cycle, each bare event is held, and each
-- held event stands in exactly one cell
pub record IsGraph (graph : GraphView) : Type 0 where
  pub rising : AllPairs (λ a b. a < b) graph.vertices
  pub joined : All (JoinsHeld graph.vertices) graph.pairs
  pub distinct : AllPairs (λ p q. p ≢ q) graph.pairs
  pub acyclic : IsAcyclic graph.pairs
  pub bare : All (λ event. is_held graph.vertices event ≡ true) graph.bare
  pub held : (cell event : ℕ) → event_at graph.slots cell ≡ Some event → is_held graph.vertices event ≡ true
  pub placed : (event : ℕ) → is_held graph.vertices event ≡ true → (cell : ℕ) × (event_at graph.slots cell ≡ Some event)
  pub one_cell : (c d event : ℕ) → event_at graph.slots c ≡ Some event → event_at graph.slots d ≡ Some event → c ≡ d
