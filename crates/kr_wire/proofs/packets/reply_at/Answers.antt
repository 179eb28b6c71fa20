use Rattle.std.proofs.Common.{ℕ, List, ◌≡◌, ◌-◌, drop, length, Ok, sym, ap, ◌∙◌, subst, arith}
use Rattle.kr_order.specs.declared.history.Reply.{Reply}
use Rattle.kr_wire.specs.Valid.{IsReply}
use Rattle.kr_wire.specs.Spelling.{reply_bytes}
use Rattle.kr_wire.specs.Reading.{reply_at, Fails}
use Rattle.kr_wire.specs.Taking.{reply_takes}
use Rattle.kr_wire.specs.Decoding.{ReadsAt}
use Rattle.kr_wire.proofs.ValueLemmas.{reply_read}
use Rattle.kr_wire.proofs.DecodeLemmas.{read_at, not_read_at, refused_nowhere, refused_at, lacks_nothing, lacks_only}
use Rattle.kr_wire.proofs.packets.reply_at.Goals as goal

pub returns-in-Ok-clause-reads : goal.returns-in-Ok-clause-reads
returns-in-Ok-clause-reads c =
    let bytes = c.args.bytes.now in
    let rest = c.in-Ok.rest.now in
    let place : c.saturating_sub.result ≡ length bytes - length rest = omega arith in
    let read : reply_at c.split_at.result.1.now ≡ Ok (c.in-Ok.reply, rest) = c.in-Ok.ensures in
    subst (λ n. ReadsAt reply_bytes IsReply bytes c.args.at (Ok (c.in-Ok.reply, n))) (sym place) (read_at reply_at reply_bytes IsReply reply_read bytes c.args.at c.in-Ok.reply rest c.requires (λ i. omega (arith, c.type_inv.bytes i)) (ap reply_at (sym c.split_at.ensures.back) ∙ read))

pub returns-in-Err-clause-reads : goal.returns-in-Err-clause-reads
returns-in-Err-clause-reads c =
    not_read_at (reply_takes (drop c.args.at c.args.bytes.now)) (length c.args.bytes.now) reply_at reply_bytes IsReply reply_read c.args.bytes.now c.args.at c.in-Err.stop c.refused.result (subst (λ behind. Fails (reply_takes behind) c.in-Err.stop (reply_at behind)) c.split_at.ensures.back c.in-Err.ensures) c.refused.ensures

pub returns-in-Ok-clause-place : goal.returns-in-Ok-clause-place
returns-in-Ok-clause-place c =
    refused_nowhere {item = Reply × ℕ} {other = Reply × List ℕ} (length c.args.bytes.now) (reply_at (drop c.args.at c.args.bytes.now)) (c.in-Ok.reply, c.saturating_sub.result) (c.in-Ok.reply, c.in-Ok.rest.now) (ap reply_at (sym c.split_at.ensures.back) ∙ c.in-Ok.ensures)

pub returns-in-Err-clause-place : goal.returns-in-Err-clause-place
returns-in-Err-clause-place c =
    refused_at (Reply × ℕ) (reply_takes (drop c.args.at c.args.bytes.now)) (length c.args.bytes.now) (reply_at (drop c.args.at c.args.bytes.now)) c.in-Err.stop c.refused.result (subst (λ behind. Fails (reply_takes behind) c.in-Err.stop (reply_at behind)) c.split_at.ensures.back c.in-Err.ensures) c.refused.ensures

pub returns-in-Ok-clause-memory : goal.returns-in-Ok-clause-memory
returns-in-Ok-clause-memory c = lacks_nothing {item = Reply × ℕ} (reply_takes (drop c.args.at c.args.bytes.now)) (c.in-Ok.reply, c.saturating_sub.result)

pub returns-in-Err-clause-memory : goal.returns-in-Err-clause-memory
returns-in-Err-clause-memory c =
    lacks_only (Reply × ℕ) (reply_takes (drop c.args.at c.args.bytes.now)) (length c.args.bytes.now) (reply_at (drop c.args.at c.args.bytes.now)) c.in-Err.stop c.refused.result (subst (λ behind. Fails (reply_takes behind) c.in-Err.stop (reply_at behind)) c.split_at.ensures.back c.in-Err.ensures) c.refused.ensures
