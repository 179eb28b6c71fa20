use Rattle.std.proofs.Common.{◌≡◌, ◌+◌, ◌++◌, ◌<◌, length, map, drop, get_or, ap, sym, ◌∙◌, subst, append_assoc, arith}
use Rattle.std.specs.Option.{option_to_list}
use Rattle.kr_order.specs.declared.history.DoneEntry.{DoneEntry}
use Rattle.kr_order.specs.Done.{done_of, last_of}
use Rattle.kr_protocol.specs.Server.{reply_packet, lasts}
use Rattle.chain_server.specs.Parts.{reply_if_last}
use Rattle.chain_server.proofs.ReplyLemmas.{lasts_next}
use Rattle.chain_server.proofs.replies.replies.Goals as goal

pub loop-done-preserved : goal.loop-done-preserved
loop-done-preserved g c =
    let id = c.args.id in
    let history = g.B.Board.stands c.args.board.now in
    let newest = c.args.newest.now in
    let i = c.loop-done.done-index in
    let done = c.done-item.result in
    let below : i < length newest = omega arith in
    let at : get_or newest i done ≡ done = sym c.done-item.is in
    let next : option_to_list (reply_if_last id (last_of (get_or newest i done).entry.client (done_of history)) (get_or newest i done)) ++ map (reply_packet id) (lasts (drop (i + 1) newest)) ≡ map (reply_packet id) (lasts (drop i newest)) = lasts_next id history newest i done c.requires below in
    let this : option_to_list (reply_if_last id (last_of done.entry.client (done_of history)) done) ++ map (reply_packet id) (lasts (drop (i + 1) newest)) ≡ map (reply_packet id) (lasts (drop i newest)) = subst (λ (d : DoneEntry). option_to_list (reply_if_last id (last_of d.entry.client (done_of history)) d) ++ map (reply_packet id) (lasts (drop (i + 1) newest)) ≡ map (reply_packet id) (lasts (drop i newest))) at next in
    ap (λ packets. packets ++ map (reply_packet id) (lasts (drop (i + 1) newest))) c.in_ok-push_reply.ensures ∙ append_assoc c.loop-done.packets (option_to_list (reply_if_last id (last_of done.entry.client (done_of history)) done)) (map (reply_packet id) (lasts (drop (i + 1) newest))) ∙ ap (λ packets. c.loop-done.packets ++ packets) this ∙ c.loop-done.invariant
