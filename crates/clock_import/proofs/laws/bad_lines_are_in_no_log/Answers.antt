use Rattle.clock_import.proofs.OnceLemmas.{no_log}
use Rattle.clock_import.proofs.laws.bad_lines_are_in_no_log.Goals as goal

pub returns : goal.returns
returns c = no_log
