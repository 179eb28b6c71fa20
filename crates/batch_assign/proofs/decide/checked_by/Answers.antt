use Rattle.std.proofs.Common.{length, ap}
use Rattle.batch_assign.proofs.StepLemmas.{musts-within, plan-within}
use Rattle.batch_assign.proofs.decide.checked_by.Goals as goal

pub returns-in_err-i-clause-most : goal.returns-in_err-i-clause-most
returns-in_err-i-clause-most g c =
    musts-within c.args.graph.now _ _ _ _ _ (ap length c.new-adds.ensures) (record { few = c.add_musts.ensures.grows; within = c.add_musts.ensures.most })

pub returns-in-Some-clause-most : goal.returns-in-Some-clause-most
returns-in-Some-clause-most g c =
    musts-within c.args.graph.now _ _ _ _ _ (ap length c.new-adds.ensures) (record { few = c.add_musts.ensures.grows; within = c.add_musts.ensures.most })

pub returns-in_err-outcomes-in-None-clause-most : goal.returns-in_err-outcomes-in-None-clause-most
returns-in_err-outcomes-in-None-clause-most g c =
    plan-within c.args.graph.now _ _ _ _ _ _ _ (ap length c.new-adds.ensures) (record { few = c.add_musts.ensures.grows; within = c.add_musts.ensures.most }) (record { few = c.add_prefers.ensures.grows; within = c.add_prefers.ensures.most })

pub returns-in_ok-outcomes-in-None-clause-most : goal.returns-in_ok-outcomes-in-None-clause-most
returns-in_ok-outcomes-in-None-clause-most g c =
    plan-within c.args.graph.now _ _ _ _ _ _ _ (ap length c.new-adds.ensures) (record { few = c.add_musts.ensures.grows; within = c.add_musts.ensures.most }) (record { few = c.add_prefers.ensures.grows; within = c.add_prefers.ensures.most })
