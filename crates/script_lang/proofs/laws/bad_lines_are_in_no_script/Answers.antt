use Rattle.script_lang.proofs.Spellings.{bad_in_none}
use Rattle.script_lang.proofs.laws.bad_lines_are_in_no_script.Goals as goal

pub returns : goal.returns
returns c = bad_in_none
