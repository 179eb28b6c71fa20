use Rattle.std.proofs.Common.{◌≡◌, ◌*◌, length, take, drop, map}
use Rattle.query_worker.specs.Told.{told_after}
use Rattle.query_worker.proofs.workers.joined.Given as goal

-- what was told to the runs so far, and the runs that are left
abbrev pub invariant-loop-run : goal.invariant-loop-run
invariant-loop-run g l = record {
  told : l.all.items ≡ map (told_after (g.A.Asks.history l.order)) (take (length l.yielded * l.size) l.queries);
  rest : l.run-iterator.rest.items ≡ drop (length l.yielded) l.fn.runs.items;
}
