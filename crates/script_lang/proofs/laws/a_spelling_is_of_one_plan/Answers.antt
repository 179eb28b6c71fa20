use Rattle.script_lang.proofs.LiveSpellings.{spelt_once}
use Rattle.script_lang.proofs.laws.a_spelling_is_of_one_plan.Goals as goal

pub returns : goal.returns
returns c = spelt_once
