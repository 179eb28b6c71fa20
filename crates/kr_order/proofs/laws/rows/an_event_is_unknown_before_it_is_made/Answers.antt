use Rattle.std.proofs.Common.{refl}
use Rattle.std.specs.Fmt.{digits}
use Rattle.kr_order.proofs.laws.rows.an_event_is_unknown_before_it_is_made.Goals as goal

pub returns : goal.returns
unfolding digits
returns c = refl
