use Rattle.script_lang.proofs.ChainSpellings.{bad_in_none}
use Rattle.script_lang.proofs.chain_laws.bad_chain_lines_are_in_no_plan.Goals as goal

pub returns : goal.returns
returns c = bad_in_none
