use Rattle.std.proofs.Common.{refl}
use Rattle.std.specs.Fmt.{digits}
use Rattle.kr_order.proofs.laws.rows.a_later_must_reverses_a_prefer.Goals as goal

pub returns : goal.returns
unfolding digits
returns c = refl
