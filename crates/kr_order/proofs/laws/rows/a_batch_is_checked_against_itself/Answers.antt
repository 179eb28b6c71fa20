use Rattle.std.proofs.Common.{refl}
use Rattle.std.specs.Fmt.{digits}
use Rattle.kr_order.proofs.laws.rows.a_batch_is_checked_against_itself.Goals as goal

pub returns : goal.returns
unfolding digits
returns c = refl
