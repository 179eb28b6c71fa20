use Rattle.script_lang.proofs.ChainSpellings.{can_be_answered}
use Rattle.script_lang.proofs.chain_laws.chain_queries_can_be_answered.Goals as goal

pub returns : goal.returns
returns c = can_be_answered
