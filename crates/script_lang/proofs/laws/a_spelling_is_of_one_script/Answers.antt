use Rattle.script_lang.proofs.Spellings.{spelt_once}
use Rattle.script_lang.proofs.laws.a_spelling_is_of_one_script.Goals as goal

pub returns : goal.returns
returns c = spelt_once
