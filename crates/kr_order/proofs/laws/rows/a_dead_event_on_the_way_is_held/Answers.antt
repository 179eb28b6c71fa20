use Rattle.std.proofs.Common.{refl}
use Rattle.std.specs.Fmt.{digits}
use Rattle.kr_order.proofs.laws.rows.a_dead_event_on_the_way_is_held.Goals as goal

pub returns : goal.returns
unfolding digits
returns c = record { told = refl; answer = refl; events = refl; pairs = refl }
