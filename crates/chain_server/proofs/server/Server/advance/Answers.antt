use Rattle.std.proofs.Common.{◌≡◌, ◌≤◌, false, cond, List, [], length, map, ap, sym, ◌∙◌, subst}
use Rattle.kr_protocol.specs.Server.{is_at_tail, advances, lasts, reply_packet}
use Rattle.chain_server.specs.ServerStanding.{ServerStanding, server_of}
use Rattle.kr_order.specs.Prefix.{IsPrefix}
use Rattle.kr_order.proofs.PrefixLemmas.{IsPrefix-take}
use Rattle.kr_order.specs.declared.history.Entry.{Entry}
use Rattle.chain_server.specs.Calls.{Heeds}
use Rattle.chain_server.proofs.AdvanceLemmas.{advances-heeds}
use Rattle.chain_server.proofs.server.Server.advance.Goals as goal

pub returns : goal.returns
returns g c =
    let s = c.self.inside in
    let history = g.B.Board.stands s.board in
    let new = g.B.Board.stands c.apply_upto.new.board in
    let committed = c.in_ok-committed.committed in
    let packets = c.in_ok-packets.packets in
    let was : s.failed ≡ false = ap (λ (o : ServerStanding). o.failed) c.self.view_is ∙ c.requires.whole in
    let prefix : IsPrefix history s.log = c.self.invariant.prefix was in
    let high : c.args.upto ≤ length s.log = subst (λ (o : ServerStanding). c.args.upto ≤ length o.server.log) (sym c.self.view_is) c.requires.high in
    let at_tail = is_at_tail (server_of s.id s.view s.log history s.link.fed s.need s.waiting) in
    let tail : c.is_at_tail-tail.result ≡ at_tail = c.is_at_tail-tail.ensures ∙ ap (λ (o : ServerStanding). is_at_tail o.server) (sym c.self.view_is) in
    let sent : packets ≡ cond at_tail (map (reply_packet s.id) (lasts committed)) [] = c.in_ok-packets.ensures ∙ ap (λ tail. cond tail (map (reply_packet s.id) (lasts c.as_slice.result.now)) []) tail ∙ ap (λ dones. cond at_tail (map (reply_packet s.id) (lasts dones)) []) c.as_slice.ensures in
    subst (λ (o : ServerStanding). Heeds o (advances o.server c.args.upto) (record { committed = committed; packets = packets }) (record { server = server_of s.id s.view s.log new s.link.fed s.need s.waiting; failed = false })) c.self.view_is (advances-heeds s.id s.view s.log history new s.link.fed s.need s.waiting s.failed c.args.upto committed packets was prefix high c.in_ok-committed.ensures.prefix c.in_ok-committed.ensures.done sent)

pub invariant_of-self-2 : goal.invariant_of-self-2
invariant_of-self-2 g c =
    record {
      next = c.self.invariant.next;
      prefix = λ _. subst (λ (h : List Entry). IsPrefix h c.self.inside.log) (sym c.in_ok-committed.ensures.prefix) (IsPrefix-take c.args.upto c.self.inside.log);
    }
