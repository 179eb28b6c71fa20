use Rattle.std.proofs.Common.{refl}
use Rattle.std.specs.Fmt.{digits}
use Rattle.kr_world.proofs.laws.rows.refused_steps_change_nothing.Goals as goal

pub returns : goal.returns
unfolding digits
returns c = refl
