use Rattle.kr_world.proofs.steps.FullBagLemmas.{full_refuses}
use Rattle.kr_world.proofs.laws.rows.a_full_bag_refuses.Goals as goal

pub returns : goal.returns
returns c = full_refuses
