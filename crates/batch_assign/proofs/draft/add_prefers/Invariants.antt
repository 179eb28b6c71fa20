use Rattle.std.proofs.Common.{◌≡◌, ◌++◌, length, drop}
use Rattle.kr_order.specs.Batch.{prefers_from, outcomes_from}
use Rattle.reach.specs.Trails.{IsTrail}
use Rattle.batch_assign.specs.Plan.{order_with, CanBeAdded, prefer_one}
use Rattle.batch_assign.proofs.StepLemmas.{IsSpent}
use Rattle.batch_assign.proofs.draft.add_prefers.Given as goal

-- what is left of the batch gives what the whole batch gives
abbrev pub invariant-loop-pair : goal.invariant-loop-pair
invariant-loop-pair g l = record {
  order : prefers_from (order_with l.graph l.adds) (drop l.pair-index l.batch) ≡ prefers_from (order_with l.graph l.initial.adds) l.batch;
  outcomes : l.outcomes ++ outcomes_from (order_with l.graph l.adds) (drop l.pair-index l.batch) ≡ outcomes_from (order_with l.graph l.initial.adds) l.batch;
  can : CanBeAdded l.graph l.adds;
  room : l.trail.room ≡ l.initial.trail.room;
  trail : IsTrail l.graph (order_with l.graph l.adds) l.trail;
  spent : IsSpent l.graph prefer_one l.batch l.pair-index (length l.initial.adds) (length l.adds) l.initial.steps l.steps;
}
