use Rattle.std.proofs.Common.{refl}
use Rattle.std.specs.Fmt.{digits}
use Rattle.kr_world.proofs.laws.rows.live_events_hold_others.Goals as goal

pub returns : goal.returns
unfolding digits
returns c = refl
