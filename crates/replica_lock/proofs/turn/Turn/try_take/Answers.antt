use Rattle.std.proofs.Common.{◌≡◌, [], ◌∷◌, Some, ap, sym, ◌∙◌, arith}
use Rattle.atomic_table.specs.Table.{rest}
use Rattle.replica_lock.proofs.SeatLemmas.{one_table, idle_seat}
use Rattle.replica_lock.proofs.KeepLemmas.{taking_keeps}
use Rattle.replica_lock.proofs.turn.Turn.try_take.Goals as goal

pub swap-found-requires : goal.swap-found-requires
swap-found-requires g c =
    let me = c.seat.inside.seat.me in
    let is = c.seat.invariant in
    let idle = idle_seat me c.seat.inside.gives c.seat.inside.taken is (ap (λ v. v.holds) c.seat.view_is ∙ c.requires.idle.holds) in (
      one_table _ _ _ _ c.seat.view_is c.self.view_is c.requires.idle.turn,
      omega (arith, c.self.invariant.0),
      taking_keeps g.T.Held.count_of g.T.Held.name_of c.self.inside.table.shared.key _ c.seat.inside.seat.id me is.some_part idle.0 idle.1,
    )

pub exchange-value-requires : goal.exchange-value-requires
exchange-value-requires g c =
    let taken = c.swap-found.ensures.2.0 c.if-found-ne0.false in
    let alone : rest c.swap-found.new.seat.me.1 ≡ [] = ap rest taken.out in (
      c.swap-found.ensures.0 ∙ (one_table _ _ _ _ c.seat.view_is c.self.view_is c.requires.idle.turn),
      (Some taken.value, taken.out ∙ ap (λ xs. (0, Some taken.value) ∷ xs) (sym alone)),
    )
