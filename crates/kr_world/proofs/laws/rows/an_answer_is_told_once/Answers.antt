use Rattle.std.proofs.Common.{refl}
use Rattle.std.specs.Fmt.{digits}
use Rattle.kr_world.proofs.laws.rows.an_answer_is_told_once.Goals as goal

pub returns : goal.returns
unfolding digits
returns c = refl
