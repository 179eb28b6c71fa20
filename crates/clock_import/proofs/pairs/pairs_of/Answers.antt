use Rattle.std.proofs.Common.{refl, arith}
use Rattle.clock_import.proofs.PairLemmas.{prior_below}
use Rattle.clock_import.proofs.pairs.pairs_of.Goals as goal

pub own_pair-own-requires-clause-prior : goal.own_pair-own-requires-clause-prior
own_pair-own-requires-clause-prior c =
    let many = c.requires.links.many in
    prior_below c.args.lines.now c.args.links.now c.loop-i.i c.requires.links (omega arith) _ refl
