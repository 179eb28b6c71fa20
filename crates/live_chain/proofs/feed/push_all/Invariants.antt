use Rattle.std.proofs.Common.{◌≡◌, ◌+◌, take}
use Rattle.rtrb.specs.Ring.{sent, known_free, SameProducer}
use Rattle.live_chain.specs.Rings.{passed}
use Rattle.live_chain.proofs.feed.push_all.Given as goal

abbrev pub invariant-loop-entry : goal.invariant-loop-entry
invariant-loop-entry l = record {
  ring : SameProducer l.initial.ring l.ring;
  room : known_free l.initial.ring ≡ known_free l.ring + l.entry-index;
  sent_is : sent l.ring ≡ passed (take l.entry-index l.entry-items);
}
