-- What goes along the rings.
use Rattle.std.specs.Prelude.{◌≡◌, ◌<◌, ◌≤◌, ◌+◌, ℕ, zero, suc, List, [], ◌∷◌, ◌++◌, length, map, Option, None, Some}
use Rattle.kr_order.specs.declared.history.Entry.{Entry}
use Rattle.live_chain.specs.declared.ring.Passed.{Passed}
use Rattle.live_chain.specs.declared.ring.Passed.TheVariants.{Next, End}
use Rattle.live_chain.specs.declared.ring.Counted.{Counted}
use Rattle.live_chain.specs.declared.ring.Counted.TheVariants.{Applied}
use Rattle.rtrb.specs.declared.producer.Producer.{Producer}
use Rattle.rtrb.specs.declared.consumer.Consumer.{Consumer}
use Rattle.rtrb.specs.declared.AnyItems.{AnyItems}
use Rattle.rtrb.specs.Ring.{sent, received, known_free, SameProducer, IsPair}
use Rattle.std.specs.declared.alloc.Global.{Global}

-- an end of a ring between nodes
abbrev pub Into : Type 0
Into = Producer Passed Global AnyItems

abbrev pub From : Type 0
From = Consumer Passed Global AnyItems

-- these entries, without the end mark
abbrev pub passed : List Entry → List Passed
passed entries = map Next entries

-- these entries, and then the end mark
abbrev pub whole : List Entry → List Passed
whole entries = passed entries ++ End ∷ []

-- the counts up to this one
abbrev pub counts_to : ℕ → List Counted
counts_to zero = []
counts_to (suc n) = counts_to n ++ Applied (suc n) ∷ []

-- the next node's ring has place for an item, where there is a next node
abbrev pub HasPlace : Option Into → Type 0
HasPlace None = Unit {0}
HasPlace (Some ring) = 0 < known_free ring

-- it has place for so many
abbrev pub HasPlaces : ℕ → Option Into → Type 0
HasPlaces n None = Unit {0}
HasPlaces n (Some ring) = n ≤ known_free ring

-- these items were pushed into it
abbrev pub WasSent : List Passed → Option Into → Type 0
WasSent items None = Unit {0}
WasSent items (Some ring) = sent ring ≡ items

-- what the next node is passed of an entry
abbrev pub IsCopyFor : Option Into → Entry → Option Passed → Type 0
IsCopyFor None entry copy = Unit {0}
IsCopyFor (Some ring) entry copy = copy ≡ Some (Next entry)

-- the item was pushed, where there is a ring and an item
abbrev pub PassesOn : Option Into → Option Passed → Option Into → Type 0
PassesOn None item None = Unit {0}
PassesOn None item (Some ring') = ⊥
PassesOn (Some ring) item None = ⊥
PassesOn (Some ring) None (Some ring') = ring' ≡ ring
PassesOn (Some ring) (Some item) (Some ring') =
    SameProducer ring ring' × (sent ring' ≡ sent ring ++ item ∷ []) × (known_free ring ≡ known_free ring' + 1)

-- both are of one ring, or there is none
abbrev pub SameNext : Option Into → Option Into → Type 0
SameNext None None = Unit {0}
SameNext None (Some ring') = ⊥
SameNext (Some ring) None = ⊥
SameNext (Some ring) (Some ring') = SameProducer ring ring'

-- the ring leads there
abbrev pub LeadsTo : Option Into → From → Type 0
LeadsTo None from = ⊥
LeadsTo (Some ring) from = IsPair ring from
