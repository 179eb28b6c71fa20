use Rattle.kr_protocol.proofs.EvolveLemmas.{later_follow}
use Rattle.kr_protocol.proofs.laws.later_views_follow.Goals as goal

pub returns : goal.returns
returns c = later_follow
