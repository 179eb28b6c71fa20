use Rattle.std.proofs.Common.{◌≡◌}
use Rattle.kr_order.specs.Prefix.{IsPrefix}
use Rattle.calls_of_board.proofs.board.ask.Given as goal

abbrev pub invariant-loop : goal.invariant-loop
invariant-loop l = record {
  list : IsPrefix l.fn.reader.list l.reader.list;
  copies : l.reader.copies ≡ l.fn.reader.copies;
}
