-- A node with the reader beside it, before and after they run, and the chain of three.
use Rattle.std.specs.Prelude.{◌≡◌, ◌<◌, ◌+◌, ℕ, false, List, [], length}
use Rattle.kr_order.specs.Done.{done_of}
use Rattle.rtrb.specs.Ring.{sent, known_free, IsPair}
use Rattle.script_lang.specs.declared.chain.ChainQuery.{ChainQuery}
use Rattle.live_chain.specs.declared.run.Chain.{Chain}
use Rattle.live_chain.specs.declared.stage.Stage.{Stage}
use Rattle.live_chain.specs.Lawful.{queries_of}
use Rattle.live_chain.specs.Nodes.{IsAt, IsThrough, IsSameNode}
use Rattle.live_chain.specs.Rings.{LeadsTo}
use Rattle.live_chain.specs.Tellers.{IsNew, IsSameTeller, HasAnswered}

-- a node of this number that has done nothing yet, and its reader
pub record IsReady (number : ℕ) (stage : Stage) : Type 0 where
  pub at : IsAt stage.node
  pub none : stage.node.writer.list ≡ []
  pub fine : stage.node.failed ≡ false
  pub new : IsNew stage.teller
  pub reader : stage.teller.reader.list ≡ []
  pub number_is : stage.teller.node ≡ number
  pub copies : stage.teller.reader.copies ≡ stage.node.writer.copies

-- both are the same node with the same reader
pub record IsSameStage (old new : Stage) : Type 0 where
  pub node : IsSameNode old.node new.node
  pub teller : IsSameTeller old.teller new.teller

-- what a node and its reader have noted, where neither failed: the journal of what the node applied, and the answers to the
-- reader's own among these queries
pub record HasNoted (queries : List ChainQuery) (stage : Stage) : Type 0 where
  pub journal : stage.node.failed ≡ false → stage.node.journal.items ≡ done_of stage.node.writer.list
  pub answered : stage.teller.failed ≡ false → HasAnswered (queries_of stage.teller.node queries) stage.teller
  pub copies : stage.teller.reader.copies ≡ stage.node.writer.copies

-- a node that has run, and its reader: where the node did not fail, it has applied and passed on all that it was passed
pub record HasRun (queries : List ChainQuery) (stage : Stage) : Type 0 where
  pub noted : HasNoted queries stage
  pub through : stage.node.failed ≡ false → IsThrough stage.node

-- the rings lead from the feeder to the head, and from node to node
pub record AreLinked (chain : Chain) : Type 0 where
  pub head : IsPair chain.ring chain.head.node.from
  pub middle : LeadsTo chain.head.node.next chain.middle.node.from
  pub tail : LeadsTo chain.middle.node.next chain.tail.node.from

-- a chain that has done nothing yet, with room for so many entries
pub record IsReadyChain (most : ℕ) (chain : Chain) : Type 0 where
  pub linked : AreLinked chain
  pub fed : sent chain.ring ≡ []
  pub room : most < known_free chain.ring
  pub head : IsReady 1 chain.head
  pub middle : IsReady 2 chain.middle
  pub tail : IsReady 3 chain.tail

-- a chain that has run
pub record HasRunChain (queries : List ChainQuery) (chain : Chain) : Type 0 where
  pub linked : AreLinked chain
  pub head : HasRun queries chain.head
  pub middle : HasRun queries chain.middle
  pub tail : HasRun queries chain.tail
  pub head_is : chain.head.teller.node ≡ 1
  pub middle_is : chain.middle.teller.node ≡ 2
  pub tail_is : chain.tail.teller.node ≡ 3
