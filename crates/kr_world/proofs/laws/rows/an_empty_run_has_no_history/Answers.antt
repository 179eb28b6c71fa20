use Rattle.std.proofs.Common.{refl}
use Rattle.std.specs.Fmt.{digits}
use Rattle.kr_world.proofs.laws.rows.an_empty_run_has_no_history.Goals as goal

pub returns : goal.returns
unfolding digits
returns c = refl
