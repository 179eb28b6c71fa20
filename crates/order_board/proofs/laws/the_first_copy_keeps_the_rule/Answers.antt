use Rattle.order_board.proofs.RuleLemmas.{opens}
use Rattle.order_board.proofs.laws.the_first_copy_keeps_the_rule.Goals as goal

pub returns : goal.returns
returns c = opens
