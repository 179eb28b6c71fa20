use Rattle.std.proofs.Common.{arith}
use Rattle.kr_wire.proofs.FieldLemmas.{byte_in_is_low}
use Rattle.kr_wire.proofs.items.capped_at.Goals as goal

pub capped_items_at-requires : goal.capped_items_at-requires
capped_items_at-requires g c = byte_in_is_low c.args.low 32 c.args.bytes.now c.in_ok-count.count c.in_ok-count.rest.now (λ i. omega (arith, c.type_inv.bytes i)) c.in_ok-count.ensures
