use Rattle.std.proofs.Common.{refl}
use Rattle.std.specs.Fmt.{digits}
use Rattle.kr_order.proofs.laws.rows.prefers_are_taken_in_order.Goals as goal

pub returns : goal.returns
unfolding digits
returns c = refl
