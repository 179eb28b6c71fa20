-- What a node does with a message.
use Rattle.std.specs.Prelude.{List, []}
use Rattle.kr_order.specs.declared.message.Packet.{Packet}

-- the node afterwards, and the packets that it sends, in this order
pub record Reaction (node : Type 0) : Type 0 where
  pub after : node
  pub sent : List Packet

-- the node takes no notice
abbrev pub ignored : {node : Type 0} → node → Reaction node
ignored node = record { after = node; sent = [] }
