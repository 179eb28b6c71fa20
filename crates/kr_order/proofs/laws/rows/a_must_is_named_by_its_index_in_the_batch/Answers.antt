use Rattle.std.proofs.Common.{refl}
use Rattle.std.specs.Fmt.{digits}
use Rattle.kr_order.proofs.laws.rows.a_must_is_named_by_its_index_in_the_batch.Goals as goal

pub returns : goal.returns
unfolding digits
returns c = refl
