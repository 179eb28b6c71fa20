use Rattle.kr_world.proofs.runs.LawfulLemmas.{runs_lawful}
use Rattle.kr_world.proofs.laws.runs_are_lawful.Goals as goal

pub returns : goal.returns
returns c = runs_lawful
