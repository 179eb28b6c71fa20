use Rattle.kr_order.proofs.PairsLemmas.{order_grows}
use Rattle.kr_order.proofs.laws.the_order_only_grows.Goals as goal

pub returns : goal.returns
returns c = order_grows
