use Rattle.kr_world.proofs.steps.CountLemmas.{queries_counted}
use Rattle.kr_world.proofs.laws.queries_are_counted.Goals as goal

pub returns : goal.returns
returns c = queries_counted
