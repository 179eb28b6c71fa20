use Rattle.std.proofs.Common.{◌≡◌, ◌≤◌, ◌+◌, ◌-◌, take}
use Rattle.reach.specs.Walk.{events_of, steps_of}
use Rattle.reach.proofs.WalkLemmas.{IsSearched}
use Rattle.reach.proofs.search.search.Given as goal

abbrev pub invariant-loop-next : goal.invariant-loop-next
invariant-loop-next g l = record {
  searched : IsSearched l.graph.pairs l.graph.slots l.goal.0 l.initial.found.cells l.found.cells l.next;
  steps : l.steps + steps_of l.graph.pairs (take l.fn.from (events_of l.graph.slots l.initial.found.cells)) ≡ l.initial.steps + steps_of l.graph.pairs (take l.next (events_of l.graph.slots l.found.cells));
  from : l.fn.from ≤ l.next;
  least : l.initial.steps + l.next ≤ l.steps + l.fn.from;
  room : l.found.room ≡ l.initial.found.room;
}

abbrev pub decreases-loop-next : goal.decreases-loop-next
decreases-loop-next g l = l.found.room - l.next
