use Rattle.std.proofs.Common.{rules, arith}
use Rattle.std.proofs.lemmas.Grind.{common_steps}
use Rattle.batch_assign.specs.Plan.{must_one}
use Rattle.batch_assign.proofs.StepLemmas.{IsSpent-more, IsSpent-few, IsSpent-within}
use Rattle.batch_assign.proofs.draft.add_musts.Goals as goal

pub returns-in_err-add_must-clause-grows : goal.returns-in_err-add_must-clause-grows
returns-in_err-add_must-clause-grows g c =
    IsSpent-few _ _ _ _ _ _ _ _ (IsSpent-more _ must_one _ _ _ _ _ _ _ _ _ c.loop-i.invariant.spent c.loop-i-test.true c.add_must.ensures.grows c.add_must.ensures.least c.add_must.ensures.most)

pub returns-in_err-add_must-clause-most : goal.returns-in_err-add_must-clause-most
returns-in_err-add_must-clause-most g c =
    IsSpent-within _ _ _ _ _ _ _ _ (IsSpent-more _ must_one _ _ _ _ _ _ _ _ _ c.loop-i.invariant.spent c.loop-i-test.true c.add_must.ensures.grows c.add_must.ensures.least c.add_must.ensures.most)

pub returns-then-branch-clause-grows : goal.returns-then-branch-clause-grows
returns-then-branch-clause-grows g c =
    IsSpent-few _ _ _ _ _ _ _ _ (IsSpent-more _ must_one _ _ _ _ _ _ _ _ _ c.loop-i.invariant.spent c.loop-i-test.true c.add_must.ensures.grows c.add_must.ensures.least c.add_must.ensures.most)

pub returns-then-branch-clause-most : goal.returns-then-branch-clause-most
returns-then-branch-clause-most g c =
    IsSpent-within _ _ _ _ _ _ _ _ (IsSpent-more _ must_one _ _ _ _ _ _ _ _ _ c.loop-i.invariant.spent c.loop-i-test.true c.add_must.ensures.grows c.add_must.ensures.least c.add_must.ensures.most)

pub loop-i-preserved : goal.loop-i-preserved
loop-i-preserved g c = record {
  order = grind (arith, common_steps);
  found = grind (arith, common_steps);
  can = search rules;
  room = search rules;
  trail = search rules;
  spent = IsSpent-more _ must_one _ _ _ _ _ _ _ _ _ c.loop-i.invariant.spent c.loop-i-test.true c.add_must.ensures.grows c.add_must.ensures.least c.add_must.ensures.most;
}
