use Rattle.std.proofs.Common.{◌≡◌, ◌<◌, ◌≤◌, ◌+◌, ◌-◌, ◌*◌, length, take}
use Rattle.reach.specs.Search.{numbered}
use Rattle.reach.specs.Walk.{events_of, steps_of, IsUnderWay}
use Rattle.reach.proofs.search.walk_on.Given as goal

abbrev pub invariant-loop-next : goal.invariant-loop-next
invariant-loop-next g l = record {
  under_way : IsUnderWay l.graph (numbered l.extra) l.fn.a.0 l.b.0 l.found.cells l.next;
  most : l.steps + steps_of l.graph.pairs (take l.from (events_of l.graph.slots l.initial.found.cells)) + l.from * length l.extra ≤ l.initial.steps + steps_of l.graph.pairs (take l.next (events_of l.graph.slots l.found.cells)) + l.next * length l.extra;
  least : l.initial.steps ≤ l.steps;
  more : l.from < l.next → l.initial.steps < l.steps;
  from : l.from ≤ l.next;
  longer : length l.initial.found.cells ≤ length l.found.cells;
  room : l.found.room ≡ l.initial.found.room;
}

abbrev pub decreases-loop-next : goal.decreases-loop-next
decreases-loop-next g l = l.found.room - l.next
