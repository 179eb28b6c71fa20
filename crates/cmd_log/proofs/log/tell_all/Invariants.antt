use Rattle.std.proofs.Common.{◌≤◌, ◌+◌, length, take}
use Rattle.std.specs.HashMap.{spare}
use Rattle.cmd_log.specs.Table.{IsTold}
use Rattle.cmd_log.proofs.log.tell_all.Given as goal

abbrev pub invariant-loop-entry : goal.invariant-loop-entry
invariant-loop-entry l = record {
  told : IsTold (take l.entry-index l.entries) l.initial.table l.table;
  room : length l.entries ≤ l.entry-index + spare l.table;
}
