use Rattle.std.proofs.Common.{ap, ◌∙◌, arith}
use Rattle.replica_lock.proofs.SeatLemmas.{one_table, idle_seat}
use Rattle.replica_lock.proofs.KeepLemmas.{joining_keeps, looking_keeps}
use Rattle.replica_lock.proofs.turn.Turn.join.Goals as goal

pub join_seat-requires : goal.join_seat-requires
join_seat-requires g c =
    let inside = c.seat.inside in
    let other = c.into_seat.result in
    let view = c.into_seat.ensures.view in
    let seated = c.into_seat.ensures.seated in
    let none_held = ap (λ v. v.holds) c.seat.view_is ∙ c.requires.seat.holds in
    let none_there = ap (λ v. v.holds) view ∙ c.requires.other.holds in
    let idle = idle_seat inside.seat.me inside.gives inside.taken c.seat.invariant none_held in
    let idle_too = idle_seat other.me c.args.other.gives seated.0 seated.1 none_there in (
      one_table _ _ _ _ c.seat.view_is c.self.view_is c.requires.seat.turn,
      one_table _ _ _ _ view c.self.view_is c.requires.other.turn,
      idle_too.1,
      omega (arith, c.self.invariant.0),
      joining_keeps g.T.Held.count_of g.T.Held.name_of c.self.inside.table.shared.key inside.seat.id other.id
          inside.seat.me.0 other.me.0 g.T.Held.nowhere idle.0 idle_too.0 c.seat.invariant.some_part,
    )

pub load-requires : goal.load-requires
load-requires g c =
    let key = c.self.inside.table.shared.key in
    let seat = c.join_seat.new.seat in (
      c.join_seat.ensures.0 ∙ one_table _ _ _ _ c.seat.view_is c.self.view_is c.requires.seat.turn,
      omega (arith, c.self.invariant.0),
      looking_keeps g.T.Held.count_of g.T.Held.name_of key _ seat.id seat.me,
    )
