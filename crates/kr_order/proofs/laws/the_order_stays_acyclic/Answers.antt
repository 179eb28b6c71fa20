use Rattle.kr_order.proofs.PairsLemmas.{order_acyclic}
use Rattle.kr_order.proofs.laws.the_order_stays_acyclic.Goals as goal

pub returns : goal.returns
returns c = order_acyclic
