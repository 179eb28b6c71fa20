use Rattle.clock_import.proofs.ImportLemmas.{one_text}
use Rattle.clock_import.proofs.laws.the_text_is_one.Goals as goal

pub returns : goal.returns
returns c = one_text
