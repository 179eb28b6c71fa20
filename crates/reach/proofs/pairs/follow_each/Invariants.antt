use Rattle.std.proofs.Common.{◌≡◌, ◌+◌, true, IfSome}
use Rattle.reach.specs.Finds.{is_in}
use Rattle.reach.specs.Walk.{events_of}
use Rattle.reach.specs.Search.{numbered}
use Rattle.reach.proofs.WalkLemmas.{IsLedOn}
use Rattle.reach.proofs.pairs.follow_each.Given as goal

abbrev pub invariant-loop-pair : goal.invariant-loop-pair
invariant-loop-pair g l = record {
  led : IsLedOn (numbered l.pairs) l.graph.slots l.goal.0 l.initial.found.cells l.found.cells l.pair-index;
  steps : l.steps ≡ l.initial.steps + l.pair-index;
  room : l.found.room ≡ l.initial.found.room;
  known : IfSome l.known (λ event. is_in (events_of l.graph.slots l.found.cells) event.0 ≡ true);
}
