use Rattle.std.proofs.Common.{refl}
use Rattle.std.specs.Fmt.{digits}
use Rattle.kr_order.proofs.laws.rows.dead_events_before_a_live_one_are_collected.Goals as goal

pub returns : goal.returns
unfolding digits
returns c = record { told = refl; events = refl; pairs = refl }
