use Rattle.std.proofs.Common.{refl}
use Rattle.std.specs.Fmt.{digits}
use Rattle.kr_order.proofs.laws.rows.a_dead_event_is_unknown.Goals as goal

pub returns : goal.returns
unfolding digits
returns c = record { told = refl; answer = refl }
