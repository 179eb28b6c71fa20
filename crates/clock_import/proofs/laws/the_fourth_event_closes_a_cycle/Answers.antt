use Rattle.std.proofs.Common.{refl}
use Rattle.std.specs.Fmt.{digits}
use Rattle.clock_import.proofs.laws.the_fourth_event_closes_a_cycle.Goals as goal

pub returns : goal.returns
unfolding digits
returns c = record { good = refl; before = refl; closed = refl }
