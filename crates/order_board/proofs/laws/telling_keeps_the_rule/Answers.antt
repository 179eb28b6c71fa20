use Rattle.order_board.proofs.RuleLemmas.{tells}
use Rattle.order_board.proofs.laws.telling_keeps_the_rule.Goals as goal

pub returns : goal.returns
returns c = tells
