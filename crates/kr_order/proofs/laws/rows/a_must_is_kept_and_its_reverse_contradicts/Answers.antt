use Rattle.std.proofs.Common.{refl}
use Rattle.std.specs.Fmt.{digits}
use Rattle.kr_order.proofs.laws.rows.a_must_is_kept_and_its_reverse_contradicts.Goals as goal

pub returns : goal.returns
unfolding digits
returns c = refl
