-- What contracts see of a search that can be gone on with.
use Rattle.std.specs.Prelude.{ℕ, List, Option, IfSome}
use Rattle.kr_order.specs.declared.ids.EventId.{EventId}
use Rattle.dep_graph.specs.GraphView.{GraphView}
use Rattle.reach.specs.Walk.{IsKept}

-- the cells that were found, how many cells there is room for, and the event from which they were found, if a search ended
pub record TrailView : Type 0 where
  pub cells : List ℕ
  pub room : ℕ
  pub from : Option EventId

-- what was found from an event is what the graph's pairs lead to from there, and lies behind it in the order
abbrev pub IsTrail : GraphView → List (ℕ × ℕ) → TrailView → Type 0
IsTrail graph order trail = IfSome trail.from (λ event. IsKept graph order event.0 trail.cells)
