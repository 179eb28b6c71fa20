use Rattle.std.proofs.Common.{◌≡◌, ◌-◌, length}
use Rattle.kr_wire.specs.Reading.{items_at}
use Rattle.kr_wire.proofs.ItemLemmas.{Begins, with_front}
use Rattle.kr_wire.proofs.items.capped_items_at.Given as goal

abbrev pub invariant-loop : goal.invariant-loop
invariant-loop g l = record {
  so_far : with_front l.items (items_at g.X.Spelt.reading (l.count - l.counter) l.rest) ≡ items_at g.X.Spelt.reading l.count l.bytes;
  begins : Begins g.X.Spelt.reading g.X.Spelt.taking l.count l.counter l.bytes l.rest;
  room : length l.items ≡ l.counter;
}
