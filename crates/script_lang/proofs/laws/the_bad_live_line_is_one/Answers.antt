use Rattle.script_lang.proofs.LiveSpellings.{bad_is_one}
use Rattle.script_lang.proofs.laws.the_bad_live_line_is_one.Goals as goal

pub returns : goal.returns
returns c = bad_is_one
