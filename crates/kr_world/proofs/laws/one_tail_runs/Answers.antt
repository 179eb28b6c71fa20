use Rattle.kr_world.proofs.runs.EveryWorldLemmas.{one_tail_runs}
use Rattle.kr_world.proofs.laws.one_tail_runs.Goals as goal

pub returns : goal.returns
returns c = one_tail_runs
