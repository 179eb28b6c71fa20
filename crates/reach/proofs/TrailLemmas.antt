-- A search that can be gone on with, where the order has more pairs.
use Rattle.std.proofs.Common.{ℕ, List}
use Rattle.std.specs.Prelude.{Option, None, Some, IfSome}
use Rattle.kr_order.specs.Prefix.{IsPrefix}
use Rattle.kr_order.specs.declared.ids.EventId.{EventId}
use Rattle.dep_graph.specs.GraphView.{GraphView}
use Rattle.reach.specs.Walk.{IsKept}
use Rattle.reach.specs.Trails.{TrailView, IsTrail}
use Rattle.reach.proofs.EndLemmas.{IsKept-more}

pub IsTrail-more : (graph : GraphView) (order longer : List (ℕ × ℕ)) (trail : TrailView) → IsPrefix order longer → IsTrail graph order trail → IsTrail graph longer trail
IsTrail-more graph order longer trail front was = by_from trail.from was
  where
    by_from : (from : Option EventId) → IfSome from (λ event. IsKept graph order event.0 trail.cells) → IfSome from (λ event. IsKept graph longer event.0 trail.cells)
    by_from None _ = tt
    by_from (Some event) kept = IsKept-more graph order longer event.0 trail.cells front kept
