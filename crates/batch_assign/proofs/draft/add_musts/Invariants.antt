use Rattle.std.proofs.Common.{◌≡◌, length, drop}
use Rattle.kr_order.specs.Batch.{musts_from, contradicts_from, contradicts}
use Rattle.reach.specs.Trails.{IsTrail}
use Rattle.batch_assign.specs.Plan.{order_with, CanBeAdded, must_one}
use Rattle.batch_assign.proofs.StepLemmas.{IsSpent}
use Rattle.batch_assign.proofs.draft.add_musts.Given as goal

-- what is left of the batch gives what the whole batch gives
abbrev pub invariant-loop-i : goal.invariant-loop-i
invariant-loop-i g l = record {
  order : musts_from (order_with l.graph l.adds) (drop l.i l.batch) ≡ musts_from (order_with l.graph l.initial.adds) l.batch;
  found : contradicts_from l.i (order_with l.graph l.adds) (drop l.i l.batch) ≡ contradicts (order_with l.graph l.initial.adds) l.batch;
  can : CanBeAdded l.graph l.adds;
  room : l.trail.room ≡ l.initial.trail.room;
  trail : IsTrail l.graph (order_with l.graph l.adds) l.trail;
  spent : IsSpent l.graph must_one l.batch l.i (length l.initial.adds) (length l.adds) l.initial.steps l.steps;
}
