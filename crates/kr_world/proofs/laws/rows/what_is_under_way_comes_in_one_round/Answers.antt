use Rattle.std.proofs.Common.{refl}
use Rattle.std.specs.Fmt.{digits}
use Rattle.kr_world.proofs.laws.rows.what_is_under_way_comes_in_one_round.Goals as goal

pub returns : goal.returns
unfolding digits
returns c = refl
