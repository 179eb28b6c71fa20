-- What the bag of a cluster stands for.
use Rattle.std.specs.Prelude.{◌≡◌, ◌≤◌, ℕ, List, ◌++◌, length, map, Bool, false, Result, Ok, Err}
use Rattle.kr_order.specs.declared.message.Node.TheVariants.{Manager}
use Rattle.kr_order.specs.declared.message.Message.TheVariants.{Ack}
use Rattle.kr_order.specs.declared.message.Packet.{Packet}
use Rattle.kr_wire.specs.Reading.{packet_in}
use Rattle.kr_wire.specs.Spelling.{spelling}
use Rattle.net_bag.specs.Sent.{Sent}

-- the packets that were ever sent, beside each whether it was lost and whether it was delivered, and how many there were
-- before the current step
pub record BagStanding : Type 0 where
  pub packets : List Packet
  pub lost : List Bool
  pub delivered : List Bool
  pub before : ℕ

-- what was read, or else some packet
abbrev pub packet_or_none : Result Packet ℕ → Packet
packet_or_none (Ok packet) = packet
packet_or_none (Err left) = record { from = Manager; to = Manager; message = Ack 0 0 }

-- the packet that the bytes spell; of other bytes nothing is meant
abbrev pub packet_of : List ℕ → Packet
packet_of bytes = packet_or_none (packet_in bytes)

-- these are the last packets of the bag
pub record IsFresh (packets fresh : List Packet) : Type 0 where
  pub front : List Packet
  pub are : packets ≡ front ++ fresh

-- the number of a packet of the bag
pub record IsNumbered (bag : BagStanding) (k : ℕ) : Type 0 where
  pub first : 1 ≤ k
  pub last : k ≤ length bag.packets

-- packets were put into the bag, and are neither lost nor delivered
pub record IsSent (old new : BagStanding) (packets : List Packet) : Type 0 where
  pub packets_are : new.packets ≡ old.packets ++ packets
  pub lost : new.lost ≡ old.lost ++ map (λ packet. false) packets
  pub delivered : new.delivered ≡ old.delivered ++ map (λ packet. false) packets
  pub before : new.before ≡ old.before

-- the same of the packets' spellings
pub record HasPackets (old new : Sent) (packets : List Packet) : Type 0 where
  pub spelt : new.spellings ≡ old.spellings ++ map spelling packets
  pub lost_are : new.lost ≡ old.lost ++ map (λ packet. false) packets
  pub delivered_are : new.delivered ≡ old.delivered ++ map (λ packet. false) packets
