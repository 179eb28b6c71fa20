use Rattle.order_board.proofs.RuleLemmas.{enters}
use Rattle.order_board.proofs.laws.entering_keeps_the_rule.Goals as goal

pub returns : goal.returns
returns c = enters
