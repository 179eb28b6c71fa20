use Rattle.std.proofs.Common.{◌≡◌, ◌++◌, length}
use Rattle.kr_order.specs.Done.{done_of}
use Rattle.kr_order.specs.Prefix.{IsPrefix}
use Rattle.chain_server.proofs.advance.apply_upto.Given as goal

abbrev pub invariant-loop-place : goal.invariant-loop-place
invariant-loop-place g l = record {
  prefix : IsPrefix (g.B.Board.stands l.board) l.log;
  count : length (g.B.Board.stands l.board) ≡ l._place;
  done : done_of (g.B.Board.stands l.board) ≡ done_of (g.B.Board.stands l.initial.board) ++ l.committed;
}
