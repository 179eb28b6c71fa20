use Rattle.kr_order.proofs.ReplyLemmas.{outcomes_true}
use Rattle.kr_order.proofs.laws.outcomes_are_true.Goals as goal

pub returns : goal.returns
returns c = outcomes_true
