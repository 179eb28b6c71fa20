use Rattle.kr_order.proofs.PairsLemmas.{before_stays}
use Rattle.kr_order.proofs.laws.a_before_is_never_withdrawn.Goals as goal

pub returns : goal.returns
returns c = before_stays
