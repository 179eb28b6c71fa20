use Rattle.std.proofs.Common.{refl}
use Rattle.std.specs.Fmt.{digits}
use Rattle.clock_import.proofs.laws.what_is_never_sent_is_not_received.Goals as goal

pub returns : goal.returns
unfolding digits
returns c = refl
