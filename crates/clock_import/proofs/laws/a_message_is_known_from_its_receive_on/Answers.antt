use Rattle.std.proofs.Common.{refl}
use Rattle.std.specs.Fmt.{digits}
use Rattle.clock_import.proofs.laws.a_message_is_known_from_its_receive_on.Goals as goal

pub returns : goal.returns
unfolding digits
returns c = record { spelt = refl; good = refl; text = refl }
