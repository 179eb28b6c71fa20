use Rattle.std.proofs.Common.{rules, arith}
use Rattle.std.proofs.lemmas.Grind.{common_steps}
use Rattle.batch_assign.specs.Plan.{prefer_one}
use Rattle.batch_assign.proofs.StepLemmas.{IsSpent-more, IsSpent-few, IsSpent-within}
use Rattle.batch_assign.proofs.draft.add_prefers.Goals as goal

pub returns-in_err-outcome-clause-grows : goal.returns-in_err-outcome-clause-grows
returns-in_err-outcome-clause-grows g c =
    IsSpent-few _ _ _ _ _ _ _ _ (IsSpent-more _ prefer_one _ _ _ _ _ _ _ _ _ c.loop-pair.invariant.spent c.loop-pair-test.true c.add_prefer.ensures.grows c.add_prefer.ensures.least c.add_prefer.ensures.most)

pub returns-in_err-outcome-clause-most : goal.returns-in_err-outcome-clause-most
returns-in_err-outcome-clause-most g c =
    IsSpent-within _ _ _ _ _ _ _ _ (IsSpent-more _ prefer_one _ _ _ _ _ _ _ _ _ c.loop-pair.invariant.spent c.loop-pair-test.true c.add_prefer.ensures.grows c.add_prefer.ensures.least c.add_prefer.ensures.most)

pub returns-in_err-push-clause-grows : goal.returns-in_err-push-clause-grows
returns-in_err-push-clause-grows g c =
    IsSpent-few _ _ _ _ _ _ _ _ (IsSpent-more _ prefer_one _ _ _ _ _ _ _ _ _ c.loop-pair.invariant.spent c.loop-pair-test.true c.add_prefer.ensures.grows c.add_prefer.ensures.least c.add_prefer.ensures.most)

pub returns-in_err-push-clause-most : goal.returns-in_err-push-clause-most
returns-in_err-push-clause-most g c =
    IsSpent-within _ _ _ _ _ _ _ _ (IsSpent-more _ prefer_one _ _ _ _ _ _ _ _ _ c.loop-pair.invariant.spent c.loop-pair-test.true c.add_prefer.ensures.grows c.add_prefer.ensures.least c.add_prefer.ensures.most)

pub loop-pair-preserved : goal.loop-pair-preserved
loop-pair-preserved g c = record {
  order = grind (arith, common_steps);
  outcomes = grind (arith, common_steps);
  can = search rules;
  room = search rules;
  trail = search rules;
  spent = IsSpent-more _ prefer_one _ _ _ _ _ _ _ _ _ c.loop-pair.invariant.spent c.loop-pair-test.true c.add_prefer.ensures.grows c.add_prefer.ensures.least c.add_prefer.ensures.most;
}
