use Rattle.script_lang.proofs.ChainSpellings.{bad_is_one}
use Rattle.script_lang.proofs.chain_laws.the_bad_chain_line_is_one.Goals as goal

pub returns : goal.returns
returns c = bad_is_one
