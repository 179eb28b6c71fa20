use Rattle.kr_order.proofs.HistoryLemmas.{created-new}
use Rattle.kr_order.proofs.laws.created_event_is_new.Goals as goal

pub returns : goal.returns
returns c = created-new
