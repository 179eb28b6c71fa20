use Rattle.std.proofs.Common.{refl}
use Rattle.std.specs.Fmt.{digits}
use Rattle.kr_order.proofs.laws.rows.a_batch_of_32_pairs.Goals as goal

pub returns : goal.returns
unfolding digits
returns c = refl
