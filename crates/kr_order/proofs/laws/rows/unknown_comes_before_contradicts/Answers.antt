use Rattle.std.proofs.Common.{refl}
use Rattle.std.specs.Fmt.{digits}
use Rattle.kr_order.proofs.laws.rows.unknown_comes_before_contradicts.Goals as goal

pub returns : goal.returns
unfolding digits
returns c = refl
