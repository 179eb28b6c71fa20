use Rattle.std.proofs.Common.{◌≡◌, vec_len, All}
use Rattle.order_board.specs.Views.{fresh_reader}
use Rattle.order_board.proofs.writer.readers_of.Given as goal

abbrev pub invariant-loop : goal.invariant-loop
invariant-loop l = record {
  same : l.writer ≡ l.fn.writer;
  fresh : All (λ reader. reader ≡ fresh_reader l.fn.writer.copies) l.readers.items;
  count : vec_len l.readers ≡ l.counter;
}
