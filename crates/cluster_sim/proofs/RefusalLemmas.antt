-- Why packets are not delivered, and not lost, by where they go.
use Rattle.std.proofs.Common.{◌≡◌, ℕ, ◌-◌, ◌≤◌, refl, sym, ap, arith}
use Rattle.std.specs.Prelude.{Option, None, Some, slice_get}
use Rattle.std.specs.Option.{option_map}
use Rattle.std.proofs.lemmas.Option.{slice_get_within, none-some, same_Some}
use Rattle.kr_order.specs.declared.message.Node.{Node}
use Rattle.kr_order.specs.declared.message.Packet.{Packet}
use Rattle.kr_world.specs.World.{World}
use Rattle.kr_world.specs.declared.refusal.Refusal.TheVariants.{NoSuchPacket}
use Rattle.kr_world.specs.Step.{deliver_refusal, lose_refusal, arrival_refusal, loss_refusal}
use Rattle.cluster_parts.specs.BagStanding.{BagStanding, IsNumbered}

abbrev pub goes : Option Packet → Option Node
goes found = option_map (λ (packet : Packet). packet.to) found

-- nothing of this number goes anywhere
pub deliver_none : (world : World) (k : ℕ) (found : Option Packet) → None ≡ goes found → Some NoSuchPacket ≡ deliver_refusal world k found
deliver_none world k None is = refl
deliver_none world k (Some packet) is = absurd (none-some packet.to is)

pub lose_none : (world : World) (k : ℕ) (found : Option Packet) → None ≡ goes found → Some NoSuchPacket ≡ lose_refusal world k found
lose_none world k None is = refl
lose_none world k (Some packet) is = absurd (none-some packet.to is)

-- the packet goes to a node
pub deliver_some : (world : World) (k : ℕ) (found : Option Packet) (to : Node) → Some to ≡ goes found → arrival_refusal world k to ≡ deliver_refusal world k found
deliver_some world k None to is = absurd (none-some to (sym is))
deliver_some world k (Some packet) to is = ap (arrival_refusal world k) (same_Some to packet.to is)

pub lose_some : (world : World) (k : ℕ) (found : Option Packet) (to : Node) → Some to ≡ goes found → loss_refusal world k ≡ lose_refusal world k found
lose_some world k None to is = absurd (none-some to (sym is))
lose_some world k (Some packet) to is = refl

-- so it is in the bag
pub goes_within : (bag : BagStanding) (k : ℕ) (found : Option Packet) (to : Node) → 1 ≤ k → slice_get bag.packets (k - 1) ≡ found → Some to ≡ goes found → IsNumbered bag k
goes_within bag k None to first at is = absurd (none-some to (sym is))
goes_within bag k (Some packet) to first at is = record { first = first; last = omega (arith, slice_get_within bag.packets (k - 1) packet at, first) }
