use Rattle.kr_order.proofs.HeldLemmas.{collected_idle}
use Rattle.kr_order.proofs.laws.collected_events_are_idle.Goals as goal

pub returns : goal.returns
returns c = collected_idle
