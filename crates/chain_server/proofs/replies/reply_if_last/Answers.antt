use Rattle.std.proofs.Common.{sym, ◌∙◌}
use Rattle.kr_order.specs.Done.{done_of}
use Rattle.chain_server.proofs.ReplyLemmas.{reply_if_last-kept, IsKeptLast}
use Rattle.chain_server.proofs.replies.reply_if_last.Goals as goal

pub returns-then-kept-done : goal.returns-then-kept-done
returns-then-kept-done g c =
    let dones = done_of (g.B.Board.stands c.args.board.now) in
    let done = c.args.done.now in
    let last : IsKeptLast done.entry.client dones c.in-Some.kept = sym c.in-Some.is ∙ c.in_ok-last.ensures in
    reply_if_last-kept c.args.id done.entry.client dones done c.in-Some.kept c.reply_of.result last c.if-kept-done.true c.reply_of.ensures.from c.reply_of.ensures.to c.reply_of.ensures.message
