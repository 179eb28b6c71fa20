use Rattle.kr_calm.proofs.CalmLemmas.{runs_calm}
use Rattle.kr_calm.proofs.laws.runs_are_calm.Goals as goal

pub returns : goal.returns
returns c = runs_calm
