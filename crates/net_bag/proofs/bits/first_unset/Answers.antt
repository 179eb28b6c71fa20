use Rattle.net_bag.proofs.BitLemmas.{set_up_to_next, unset_found_in}
use Rattle.net_bag.proofs.bits.first_unset.Goals as goal

pub loop-w-preserved : goal.loop-w-preserved
loop-w-preserved c =
    set_up_to_next c.args.words.now c.args.low c.loop-w.w c.loop-w.from c.loop-w.invariant c.in_default.ensures.none

pub returns-in-Some-clause-some : goal.returns-in-Some-clause-some
returns-in-Some-clause-some c =
    unset_found_in c.args.words.now c.args.low c.loop-w.w c.loop-w.from c.in-Some.t c.loop-w-test.true c.loop-w.invariant c.in-Some.ensures.some
