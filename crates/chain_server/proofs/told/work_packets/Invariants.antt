use Rattle.std.proofs.Common.{◌≡◌, false, length, take, map}
use Rattle.kr_order.specs.View.{is_tail}
use Rattle.kr_protocol.specs.Server.{viewed, worked_off}
use Rattle.chain_server.proofs.told.work_packets.Given as goal

abbrev pub invariant-loop-i : goal.invariant-loop-i
invariant-loop-i g l =
    l.packets ≡ map (worked_off l.id l.view (viewed false is_tail l.view l.id) (length (g.B.Board.stands l.board)) (g.B.Board.stands l.board)) (take l.i l.waiting)
