use Rattle.clock_import.proofs.ReplayLemmas.{commands_give}
use Rattle.clock_import.proofs.laws.commands_give_the_order.Goals as goal

pub returns : goal.returns
returns c = commands_give
