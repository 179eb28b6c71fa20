use Rattle.std.proofs.Common.{refl}
use Rattle.std.specs.Fmt.{digits}
use Rattle.kr_order.proofs.laws.rows.a_chain_of_30_events.Goals as goal

pub returns : goal.returns
unfolding digits
returns c = record { made = refl; asked = refl; before = refl; after = refl }
