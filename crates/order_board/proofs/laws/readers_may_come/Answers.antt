use Rattle.order_board.proofs.RuleLemmas.{admits}
use Rattle.order_board.proofs.laws.readers_may_come.Goals as goal

pub returns : goal.returns
returns c = admits
