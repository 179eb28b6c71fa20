use Rattle.order_board.proofs.LogLemmas.{begins_longer}
use Rattle.order_board.proofs.laws.beginnings_agree.Goals as goal

pub returns : goal.returns
returns c log one other = begins_longer one other log
