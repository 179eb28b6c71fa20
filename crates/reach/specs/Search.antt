-- What a search for a path is asked.
use Rattle.std.specs.Prelude.{◌≡◌, ℕ, true, List, map}
use Rattle.kr_order.specs.declared.ids.EventId.{EventId}
use Rattle.dep_graph.specs.GraphView.{is_held}

-- pairs of events, as pairs of their numbers
abbrev pub numbered : List (EventId × EventId) → List (ℕ × ℕ)
numbered pairs = map (λ pair. (pair.0.0, pair.1.0)) pairs

-- both events of the pair are held
pub record AreHeld (vertices : List ℕ) (pair : EventId × EventId) : Type 0 where
  pub first : is_held vertices pair.0.0 ≡ true
  pub second : is_held vertices pair.1.0 ≡ true
