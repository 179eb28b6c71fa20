use Rattle.std.proofs.Common.{◌+◌, refl, ap, sym, ◌∙◌}
use Rattle.chain_server.proofs.AppliedLemmas.{applied_next, applied_done}
use Rattle.chain_server.proofs.advance.apply_next.Goals as goal

pub returns-clause-prefix : goal.returns-clause-prefix
returns-clause-prefix g c =
    applied_next c.args.log.now (g.B.Board.stands c.args.board.now) (g.B.Board.stands c.apply.new.self) c.unwrap-entry.result (c.count-place.result + 1) c.requires.prefix c.requires.more (ap (λ n. n + 1) c.count-place.ensures) (sym c.in_ok-found.ensures ∙ c.unwrap-entry.ensures) c.in_ok-reply.ensures.history

pub returns-clause-done : goal.returns-clause-done
returns-clause-done g c =
    applied_done (g.B.Board.stands c.args.board.now) (g.B.Board.stands c.apply.new.self) c.unwrap-entry.result (record { place = c.count-place.result + 1; entry = c.unwrap-entry.result; reply = c.in_ok-reply.reply }) (ap (λ n. n + 1) c.count-place.ensures) refl c.in_ok-reply.ensures.reply c.in_ok-reply.ensures.history
