use Rattle.script_lang.proofs.LiveSpellings.{bad_in_none}
use Rattle.script_lang.proofs.laws.bad_live_lines_are_in_no_plan.Goals as goal

pub returns : goal.returns
returns c = bad_in_none
