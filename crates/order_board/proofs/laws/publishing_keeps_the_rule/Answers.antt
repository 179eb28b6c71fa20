use Rattle.order_board.proofs.RuleLemmas.{shows}
use Rattle.order_board.proofs.laws.publishing_keeps_the_rule.Goals as goal

pub returns : goal.returns
returns c = shows
