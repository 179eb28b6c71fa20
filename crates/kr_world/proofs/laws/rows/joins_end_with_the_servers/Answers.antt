use Rattle.kr_world.proofs.steps.SpentLemmas.{joins_end}
use Rattle.kr_world.proofs.laws.rows.joins_end_with_the_servers.Goals as goal

pub returns : goal.returns
returns c = joins_end
