use Rattle.std.proofs.Common.{sym, ◌∙◌}
use Rattle.kr_order.specs.Done.{done_of}
use Rattle.chain_server.proofs.ReplyLemmas.{repeated-kept, IsKeptLast}
use Rattle.chain_server.proofs.replies.repeated.Goals as goal

pub returns-then-kept-seq : goal.returns-then-kept-seq
returns-then-kept-seq g c =
    let dones = done_of (g.B.Board.stands c.args.board.now) in
    let last : IsKeptLast c.args.client dones c.in-Some.kept = sym c.in-Some.is ∙ c.in_ok-last.ensures in
    repeated-kept c.args.id c.args.client dones c.args.seq c.in-Some.kept c.reply_of.result last c.if-kept-seq.true c.reply_of.ensures.from c.reply_of.ensures.to c.reply_of.ensures.message
