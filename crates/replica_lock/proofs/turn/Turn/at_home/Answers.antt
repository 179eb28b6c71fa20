use Rattle.std.proofs.Common.{ap, sym, ◌∙◌}
use Rattle.replica_lock.proofs.SeatLemmas.{idle_seat}
use Rattle.replica_lock.proofs.EndLemmas.{closes}
use Rattle.replica_lock.proofs.turn.Turn.at_home.Goals as goal

pub returns : goal.returns
returns g c =
    let seat = c.into_seat.result in
    let view = c.into_seat.ensures.view in
    let seated = c.into_seat.ensures.seated in
    let idle = idle_seat seat.me c.args.seat.gives seated.0 seated.1 (ap (λ v. v.holds) view ∙ c.requires.idle.holds) in
    closes g.T.Held.count_of g.T.Held.name_of c.self.inside.table.shared.key _ _ seat.id seat.me.0 c.take-value.result
    c.args.self.name c.args.seat.gives c.close_with-closed.ensures.values.2 idle.0
    (ap (λ v. v.parts) view ∙ (c.requires.whole ∙ sym (ap (λ t. t.seats) c.self.view_is))) c.take-value.ensures.value
    (ap (λ t. t.name) c.self.view_is) (ap (λ v. v.gives) view)
