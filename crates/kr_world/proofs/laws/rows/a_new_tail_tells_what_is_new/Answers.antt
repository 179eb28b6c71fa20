use Rattle.std.proofs.Common.{refl}
use Rattle.std.specs.Fmt.{digits}
use Rattle.kr_world.proofs.laws.rows.a_new_tail_tells_what_is_new.Goals as goal

pub returns : goal.returns
unfolding digits
returns c = refl
