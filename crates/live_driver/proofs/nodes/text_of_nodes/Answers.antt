use Rattle.live_driver.specs.Due.{IsTextOfChain}
use Rattle.live_chain.specs.Lawful.{queries_of}
use Rattle.live_driver.proofs.SureLemmas.{tolds_sure}
use Rattle.live_driver.proofs.TextLemmas.{chain_text_so, journal_is}
use Rattle.live_driver.proofs.nodes.text_of_nodes.Goals as goal

pub text_of_chain-requires-clause-head : goal.text_of_chain-requires-clause-head
text_of_chain-requires-clause-head g c =
    tolds_sure c.args.plan.now.entries 0 (queries_of 1 c.args.plan.now.queries) c.in_ok-run.run'.head.told c.in_ok-run.ensures.head.told

pub text_of_chain-requires-clause-middle : goal.text_of_chain-requires-clause-middle
text_of_chain-requires-clause-middle g c =
    tolds_sure c.args.plan.now.entries 0 (queries_of 2 c.args.plan.now.queries) c.in_ok-run.run'.middle.told c.in_ok-run.ensures.middle.told

pub text_of_chain-requires-clause-tail : goal.text_of_chain-requires-clause-tail
text_of_chain-requires-clause-tail g c =
    tolds_sure c.args.plan.now.entries 0 (queries_of 3 c.args.plan.now.queries) c.in_ok-run.run'.tail.told c.in_ok-run.ensures.tail.told

pub text_of_chain-requires-clause-journal : goal.text_of_chain-requires-clause-journal
text_of_chain-requires-clause-journal g c =
    journal_is c.in_ok-run.run'.head.journal c.args.plan.now.entries c.in_ok-run.ensures.head.journal

pub returns : goal.returns
returns g c = chain_text_so c.args.plan.now c.in_ok-run.run' c.text_of_chain.result c.in_ok-run.ensures c.text_of_chain.ensures
