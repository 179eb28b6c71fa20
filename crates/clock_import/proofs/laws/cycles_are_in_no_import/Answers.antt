use Rattle.clock_import.proofs.ImportLemmas.{no_import}
use Rattle.clock_import.proofs.laws.cycles_are_in_no_import.Goals as goal

pub returns : goal.returns
returns c = no_import
