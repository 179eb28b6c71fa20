use Rattle.std.proofs.Common.{◌≡◌, ◌++◌, take}
use Rattle.calls_of_board.proofs.writing.write.Given as goal

abbrev pub invariant-loop-entry : goal.invariant-loop-entry
invariant-loop-entry g l = record {
  list : l.writer.list ≡ l.fn.writer.list ++ take l.entry-index l.entries;
  copies : l.writer.copies ≡ l.fn.writer.copies;
}
