use Rattle.std.proofs.Common.{◌≡◌, ◌+◌, ◌≤◌, length, vec_capacity}
use Rattle.std.specs.Prelude.{All}
use Rattle.live_service.specs.Runs.{IsFresh, AreNumbered}
use Rattle.live_service.proofs.run.callers_of.Given as goal

abbrev pub invariant-loop-pass : goal.invariant-loop-pass
invariant-loop-pass l = record {
  rest : l.passes ≡ record l.initial.passes { left = l.passes.left };
  count : length l.room.items + l.passes.left ≡ l.passes.passes;
  room : length l.room.items + l.passes.left ≤ vec_capacity l.room;
  fresh : All (IsFresh l.passes.service) l.room.items;
  numbered : AreNumbered 1 l.room.items;
}

abbrev pub decreases-loop-pass : goal.decreases-loop-pass
decreases-loop-pass l = l.passes.left
