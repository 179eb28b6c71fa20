use Rattle.kr_order.proofs.OrderLemmas.{before_by_pairs}
use Rattle.kr_order.proofs.laws.a_path_goes_over_a_pair.Goals as goal

pub returns : goal.returns
returns c = before_by_pairs
