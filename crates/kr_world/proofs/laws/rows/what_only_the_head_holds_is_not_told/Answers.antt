use Rattle.std.proofs.Common.{refl}
use Rattle.std.specs.Fmt.{digits}
use Rattle.kr_world.proofs.laws.rows.what_only_the_head_holds_is_not_told.Goals as goal

pub returns : goal.returns
unfolding digits
returns c = refl
