use Rattle.live_chain.proofs.ChainLemmas.{chain_lawful}
use Rattle.live_chain.proofs.run.Chain.end.Goals as goal

pub returns : goal.returns
returns g c =
    chain_lawful c.args.plan.now c.args.self _ _ _ c.requires.run c.requires.fed c.compare.ensures c.compare_next.ensures c.compare_next-2.ensures
    c.in_ok-head.ensures c.in_ok-middle.ensures c.in_ok-tail.ensures
