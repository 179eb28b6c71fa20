use Rattle.std.proofs.Common.{refl}
use Rattle.std.specs.Fmt.{digits}
use Rattle.kr_order.proofs.laws.rows.an_event_beside_itself.Goals as goal

pub returns : goal.returns
unfolding digits
returns c = refl
