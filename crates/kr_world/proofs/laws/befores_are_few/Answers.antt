use Rattle.kr_world.proofs.runs.BeforesLemmas.{befores_few}
use Rattle.kr_world.proofs.laws.befores_are_few.Goals as goal

pub returns : goal.returns
returns c = befores_few
