use Rattle.std.proofs.Common.{◌≡◌, ◌+◌, ◌≤◌, length, ap, sym, ◌∙◌, subst, arith}
use Rattle.kr_order.specs.declared.history.Entry.{Entry}
use Rattle.kr_order.specs.History.{births_of}
use Rattle.order_state.specs.Decision.{adds_of}
use Rattle.order_state.specs.Kept.{IsReady}
use Rattle.order_state.specs.Standing.{Standing}
use Rattle.order_state.proofs.StateLemmas.{IsReady-decided}
use Rattle.order_state.proofs.state.State.prepare.Goals as goal

pub returns-clause-ready : goal.returns-clause-ready
returns-clause-ready c =
    let standing : Standing = c.reserve.new.self in
    let entry = c.args.entry.now in
    let decision = c.in_ok-reply.field-0 in
    let same = c.reserve.ensures.history ∙ ap (λ (s : Standing). s.history) c.decide.ensures.state in
    let events : births_of entry.command ≤ standing.event_room = omega (arith, c.births.ensures, c.in_ok-reserve.ensures.event_room) in
    let pairs : length (adds_of decision.plan) ≤ standing.pair_room = omega (arith, c.added.ensures, c.in_ok-reserve.ensures.pair_room) in
    subst (λ (e : Entry). IsReady standing (record { entry = e; kept = record { seq = entry.seq; place = c.count.result + 1; reply = c.in_ok-copy.field-0 }; reply = decision.reply; plan = decision.plan })) (sym c.in_ok-copy-2.ensures) (IsReady-decided standing c.args.self.now.history entry decision (c.count.result + 1) c.in_ok-copy.field-0 same c.in_ok-reply.ensures.decision (ap (λ n. n + 1) c.count.ensures) c.in_ok-copy.ensures c.in_ok-reserve.ensures.room events pairs)
