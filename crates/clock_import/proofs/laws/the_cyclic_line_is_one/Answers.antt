use Rattle.clock_import.proofs.ImportLemmas.{one_cyclic_line}
use Rattle.clock_import.proofs.laws.the_cyclic_line_is_one.Goals as goal

pub returns : goal.returns
returns c = one_cyclic_line
