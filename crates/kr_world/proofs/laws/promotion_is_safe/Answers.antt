use Rattle.kr_world.proofs.runs.JoinerLemmas.{promotion_safe}
use Rattle.kr_world.proofs.laws.promotion_is_safe.Goals as goal

pub returns : goal.returns
returns c = promotion_safe
