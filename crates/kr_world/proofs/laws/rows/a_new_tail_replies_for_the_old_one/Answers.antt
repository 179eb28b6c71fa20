use Rattle.std.proofs.Common.{refl}
use Rattle.std.specs.Fmt.{digits}
use Rattle.kr_world.proofs.laws.rows.a_new_tail_replies_for_the_old_one.Goals as goal

pub returns : goal.returns
unfolding digits
returns c = refl
