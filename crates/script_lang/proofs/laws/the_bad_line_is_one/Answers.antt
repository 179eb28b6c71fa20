use Rattle.script_lang.proofs.Spellings.{bad_is_one}
use Rattle.script_lang.proofs.laws.the_bad_line_is_one.Goals as goal

pub returns : goal.returns
returns c = bad_is_one
