use Rattle.std.proofs.Common.{◌≡◌, ◌++◌, take}
use Rattle.uses_order.proofs.order.put_all.Given as goal

abbrev pub invariant-loop-entry : goal.invariant-loop-entry
invariant-loop-entry l = record {
  history : l.state.history ≡ l.fn.state.history ++ take l.entry-index l.entries;
}
