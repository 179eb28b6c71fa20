use Rattle.kr_protocol.proofs.Repeats.{again}
use Rattle.kr_protocol.proofs.laws.repeats_change_nothing.Goals as goal

pub returns : goal.returns
returns c = again
