use Rattle.order_board.proofs.RuleLemmas.{enters}
use Rattle.order_board.proofs.door.Door.enter.Goals as goal

pub enter_as-requires : goal.enter_as-requires
enter_as-requires c = enters _ _
