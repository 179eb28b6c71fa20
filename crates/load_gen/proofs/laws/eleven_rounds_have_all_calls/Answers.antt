use Rattle.std.proofs.Common.{refl}
use Rattle.std.specs.Fmt.{digits}
use Rattle.load_gen.proofs.laws.eleven_rounds_have_all_calls.Goals as goal

pub returns : goal.returns
unfolding digits
returns c = refl
