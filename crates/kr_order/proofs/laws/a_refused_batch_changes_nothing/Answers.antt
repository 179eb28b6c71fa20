use Rattle.kr_order.proofs.ReplyLemmas.{refused_changes_nothing}
use Rattle.kr_order.proofs.laws.a_refused_batch_changes_nothing.Goals as goal

pub returns : goal.returns
returns c = refused_changes_nothing
