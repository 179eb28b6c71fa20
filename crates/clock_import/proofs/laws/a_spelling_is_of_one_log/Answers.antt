use Rattle.clock_import.proofs.OnceLemmas.{one_log}
use Rattle.clock_import.proofs.laws.a_spelling_is_of_one_log.Goals as goal

pub returns : goal.returns
returns c = one_log
