use Rattle.script_lang.proofs.PairLemmas.{pairs_once}
use Rattle.script_lang.proofs.live.assign_of.Goals as goal

pub pairs_of-requires-clause-one_way : goal.pairs_of-requires-clause-one_way
pairs_of-requires-clause-one_way c = pairs_once
