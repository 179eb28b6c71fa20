-- A node, before, while and after it runs.
use Rattle.std.specs.Prelude.{◌≡◌, ◌<◌, ◌≤◌, ◌+◌, ◌-◌, ℕ, List, [], ◌∷◌, ◌++◌, length}
use Rattle.kr_order.specs.declared.history.Entry.{Entry}
use Rattle.kr_order.specs.Done.{done_of}
use Rattle.order_board.specs.Views.{fresh_reader}
use Rattle.rtrb.specs.Ring.{sent, received, known_free, SameConsumer, SameProducer}
use Rattle.live_chain.specs.declared.copies.Copies.{Copies}
use Rattle.live_chain.specs.declared.node.Node.{Node}
use Rattle.live_chain.specs.declared.ring.Passed.TheVariants.{Next, End}
use Rattle.live_chain.specs.declared.ring.Counted.TheVariants.{End as LastCount}
use Rattle.live_chain.specs.Rings.{passed, whole, counts_to, HasPlaces, WasSent, SameNext}

-- two copies of the empty order
pub record AreFresh (copies : Copies) : Type 0 where
  pub list : copies.writer.list ≡ []
  pub reader : copies.reader ≡ fresh_reader copies.writer.copies

-- each ring of the node has room for what may still come, and for the end mark
pub record HasRoom (node : Node) : Type 0 where
  pub few : length node.writer.list ≤ node.most
  pub next : HasPlaces (node.most + 1 - length node.writer.list) node.next
  pub counts : node.most + 1 - length node.writer.list ≤ known_free node.counts

-- what the node has applied is what it noted, passed on and counted
pub record HasDone (node : Node) : Type 0 where
  pub journal : node.journal.items ≡ done_of node.writer.list
  pub next : WasSent (passed node.writer.list) node.next
  pub counts : sent node.counts ≡ counts_to (length node.writer.list)

-- the node has applied what it was passed
pub record IsAt (node : Node) : Type 0 where
  pub room : HasRoom node
  pub does : HasDone node
  pub got : received node.from ≡ passed node.writer.list

-- it was passed one entry more
pub record HasPopped (node : Node) (entry : Entry) : Type 0 where
  pub room : HasRoom node
  pub does : HasDone node
  pub got : received node.from ≡ passed node.writer.list ++ Next entry ∷ []

-- it was passed the end mark
pub record HasEnded (node : Node) : Type 0 where
  pub does : HasDone node
  pub got : received node.from ≡ whole node.writer.list

-- it has passed on and counted all, with the end marks
pub record IsThrough (node : Node) : Type 0 where
  pub journal : node.journal.items ≡ done_of node.writer.list
  pub got : received node.from ≡ whole node.writer.list
  pub next : WasSent (whole node.writer.list) node.next
  pub counts : sent node.counts ≡ counts_to (length node.writer.list) ++ LastCount ∷ []

-- both are the node of this number, of the same copies and rings
pub record IsSameNode (old new : Node) : Type 0 where
  pub number : new.number ≡ old.number
  pub copies : new.writer.copies ≡ old.writer.copies
  pub from : SameConsumer old.from new.from
  pub next : SameNext old.next new.next
