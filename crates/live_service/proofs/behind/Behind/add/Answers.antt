use Rattle.std.proofs.Common.{◌≡◌, ap, ◌∙◌, subst}
use Rattle.kr_order.specs.declared.history.Placed.{Placed}
use Rattle.live_service.specs.Commands.{placed_after}
use Rattle.live_service.proofs.KnownLemmas.{journal_grows, placed_so}
use Rattle.live_service.proofs.ReplyLemmas.{reply_fits}
use Rattle.live_service.proofs.behind.Behind.add.Goals as goal

pub twin_of-told-requires-clause-room : goal.twin_of-told-requires-clause-room
twin_of-told-requires-clause-room g c =
    reply_fits c.self.inside.writer.list c.args.entry.command _ c.in_ok-reply.reply c.in_ok-reply.ensures.reply c.in_ok-room.ensures.room

pub invariant_of-self-2 : goal.invariant_of-self-2
invariant_of-self-2 g c =
    c.push_reserved.ensures.items ∙ journal_grows c.reserve.new.self.items c.self.inside.writer.list c.apply.new.self.list c.args.entry
    c.count-place.result c.in_ok-reply.reply (c.in_ok-reserve.ensures.items ∙ c.self.invariant)
    (ap (λ w. w.list) c.in_ok-reply.ensures.list) c.count-place.ensures c.in_ok-reply.ensures.reply

pub returns-clause-placed : goal.returns-clause-placed
returns-clause-placed g c =
    let placed : Placed = record { place = c.count-place.result; reply = c.twin_of-told.result } in
    subst (λ history. placed ≡ placed_after history c.args.entry) (ap (λ b. b.list) c.self.view_is)
    (placed_so c.self.inside.writer.list c.apply.new.self.list c.args.entry c.count-place.result c.in_ok-reply.reply
    c.twin_of-told.result (ap (λ w. w.list) c.in_ok-reply.ensures.list) c.count-place.ensures c.twin_of-told.ensures
    c.in_ok-reply.ensures.reply)
