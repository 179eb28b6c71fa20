use Rattle.clock_import.proofs.OnceLemmas.{one_bad_line}
use Rattle.clock_import.proofs.laws.the_bad_line_is_one.Goals as goal

pub returns : goal.returns
returns c = one_bad_line
