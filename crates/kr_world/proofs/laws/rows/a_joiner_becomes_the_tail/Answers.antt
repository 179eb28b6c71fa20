use Rattle.std.proofs.Common.{refl}
use Rattle.std.specs.Fmt.{digits}
use Rattle.kr_world.proofs.laws.rows.a_joiner_becomes_the_tail.Goals as goal

pub returns : goal.returns
unfolding digits
returns c = refl
