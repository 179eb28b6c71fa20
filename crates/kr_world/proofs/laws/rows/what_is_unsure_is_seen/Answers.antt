use Rattle.std.proofs.Common.{refl}
use Rattle.std.specs.Fmt.{digits}
use Rattle.kr_world.proofs.laws.rows.what_is_unsure_is_seen.Goals as goal

pub returns : goal.returns
unfolding digits
returns c = record { text = refl; first = (refl, refl); second = (refl, refl); seen = refl }
