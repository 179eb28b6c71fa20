use Rattle.net_bag.proofs.BitLemmas.{IsSetUpTo}
use Rattle.net_bag.proofs.bits.first_unset.Given as goal

abbrev pub invariant-loop-w : goal.invariant-loop-w
invariant-loop-w l = IsSetUpTo l.words l.low l.w l.from
