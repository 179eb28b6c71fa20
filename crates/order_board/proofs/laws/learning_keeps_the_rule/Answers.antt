use Rattle.order_board.proofs.RuleLemmas.{learns}
use Rattle.order_board.proofs.laws.learning_keeps_the_rule.Goals as goal

pub returns : goal.returns
returns c = learns
