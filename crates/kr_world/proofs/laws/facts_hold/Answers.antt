use Rattle.kr_world.proofs.runs.EveryWorldLemmas.{facts_hold}
use Rattle.kr_world.proofs.laws.facts_hold.Goals as goal

pub returns : goal.returns
returns c = facts_hold
