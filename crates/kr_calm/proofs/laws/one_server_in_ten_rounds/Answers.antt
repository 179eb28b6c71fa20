use Rattle.std.proofs.Common.{refl}
use Rattle.std.specs.Fmt.{digits}
use Rattle.kr_calm.proofs.laws.one_server_in_ten_rounds.Goals as goal

pub returns : goal.returns
unfolding digits
returns c = refl
