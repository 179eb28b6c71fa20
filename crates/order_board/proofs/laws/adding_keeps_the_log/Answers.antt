use Rattle.order_board.proofs.LogLemmas.{grows_moves}
use Rattle.order_board.proofs.laws.adding_keeps_the_log.Goals as goal

pub returns : goal.returns
returns c = grows_moves
