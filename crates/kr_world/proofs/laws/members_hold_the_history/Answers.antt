use Rattle.kr_world.proofs.runs.EveryWorldLemmas.{members_hold_everywhere}
use Rattle.kr_world.proofs.laws.members_hold_the_history.Goals as goal

pub returns : goal.returns
returns c = members_hold_everywhere
