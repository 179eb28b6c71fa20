use Rattle.std.proofs.Common.{◌≡◌, ◌-◌}
use Rattle.kr_wire.specs.Valid.{last_id}
use Rattle.kr_wire.specs.Reading.{rising_at}
use Rattle.kr_wire.proofs.ItemLemmas.{Rises, with_front}
use Rattle.kr_wire.proofs.views.rising_at.Given as goal

abbrev pub invariant-loop : goal.invariant-loop
invariant-loop l = record {
  so_far : with_front l.ids.items (rising_at (l.count - l.counter) l.last l.rest) ≡ rising_at l.count 0 l.bytes;
  begins : Rises l.count l.counter l.last l.bytes l.rest;
  last : l.last ≡ last_id 0 l.ids.items;
}
