use Rattle.live_driver.proofs.SureLemmas.{clients_sure}
use Rattle.live_driver.proofs.TextLemmas.{journal_is, text_so}
use Rattle.live_driver.proofs.run.text_of_plan.Goals as goal

pub text_of_run-requires-clause-sure : goal.text_of_run-requires-clause-sure
text_of_run-requires-clause-sure g c =
    clients_sure c.in_ok-run.ensures.0 c.args.plan.now.calls 1 c.in_ok-run.run'.calls c.in_ok-run.ensures.2.told

pub text_of_run-requires-clause-journal : goal.text_of_run-requires-clause-journal
text_of_run-requires-clause-journal g c = journal_is c.in_ok-run.run'.journal c.in_ok-run.ensures.0 c.in_ok-run.ensures.1

pub returns : goal.returns
returns g c =
    text_so c.args.plan.now c.in_ok-run.run'.calls c.in_ok-run.run'.journal c.in_ok-run.ensures.0 c.text_of_run.result c.in_ok-run.ensures.1 c.in_ok-run.ensures.2 c.text_of_run.ensures
