use Rattle.std.proofs.Common.{refl}
use Rattle.std.specs.Fmt.{digits}
use Rattle.load_gen.proofs.laws.one_round_is_a_create.Goals as goal

pub returns : goal.returns
unfolding digits
returns c = record { events = refl; text = refl }
