use Rattle.kr_order.proofs.HistoryLemmas.{live-born}
use Rattle.kr_order.proofs.laws.live_events_are_born.Goals as goal

pub returns : goal.returns
returns c = live-born
