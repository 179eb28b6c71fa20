use Rattle.script_lang.proofs.ChainSpellings.{spelt_once}
use Rattle.script_lang.proofs.chain_laws.a_spelling_is_of_one_chain_plan.Goals as goal

pub returns : goal.returns
returns c = spelt_once
