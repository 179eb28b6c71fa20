use Rattle.script_lang.proofs.ChainSpellings.{no_longer}
use Rattle.script_lang.proofs.chain_laws.chain_plans_are_no_longer_than_their_bytes.Goals as goal

pub returns : goal.returns
returns c = no_longer
