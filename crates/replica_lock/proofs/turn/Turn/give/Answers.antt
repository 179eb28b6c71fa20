use Rattle.std.proofs.Common.{◌≡◌, ◌+◌, ◌<◌, [], ◌∷◌, Some, ap, sym, ◌∙◌, subst, ⊎_elim, arith}
use Rattle.atomic_table.specs.Table.{rest}
use Rattle.replica_lock.specs.declared.seat.TheConstants.{MOST_GIVES}
use Rattle.replica_lock.proofs.SeatLemmas.{one_table, IsSomeAnd-value, holding_seat, IsReady, IsReady-raised, IsReady-same}
use Rattle.replica_lock.proofs.KeepLemmas.{counting_keeps, giving_keeps}
use Rattle.replica_lock.proofs.turn.Turn.give.Goals as goal
use Rattle.replica_lock.proofs.turn.Turn.give.Goals.{then-count-seat, else-count-seat}

pub fetch_add-requires : goal.fetch_add-requires
fetch_add-requires g c =
    let count_of = g.T.Held.count_of in
    let value = c.args.value in
    let inside = c.seat.inside in
    let is = c.seat.invariant in
    let k = IsSomeAnd-value _ _ c.requires.count in
    let held = holding_seat inside.seat.me inside.gives inside.taken k.0 is (ap (λ v. v.holds) c.seat.view_is ∙ k.1) in
    let same_gives = ap (λ v. v.gives) c.seat.view_is in
    let room : inside.seat.me.0.gives < MOST_GIVES =
    ⊎_elim
    (λ (same : count_of value ≡ k.0). absurd (omega (arith, same, held.0, c.count.ensures, c.if-count-seat.true)))
    (λ (more : (count_of value ≡ k.0 + 1) × (c.args.seat.now.gives < MOST_GIVES)). omega (arith, more.1, same_gives))
    k.2 in (
      one_table _ _ _ _ c.seat.view_is c.self.view_is c.requires.turn,
      omega (arith, c.self.invariant.0),
      counting_keeps count_of g.T.Held.name_of c.self.inside.table.shared.key _ inside.seat.id k.0 inside.seat.me
          is.some_part room held.1.0,
    )

pub swap-requires : goal.swap-requires
swap-requires g c =
    let count_of = g.T.Held.count_of in
    let value = c.args.value in
    let inside = c.seat.inside in
    let is = c.seat.invariant in
    let k = IsSomeAnd-value _ _ c.requires.count in
    let held = holding_seat inside.seat.me inside.gives inside.taken k.0 is (ap (λ v. v.holds) c.seat.view_is ∙ k.1) in
    let mid = c.if-count-seat.seat-inside.seat in
    let ready : (mid.table_id ≡ inside.seat.table_id) × IsReady inside.seat.me.0.name (count_of value) mid.me =
    elim c.if-count-seat.branch [
      | then-count-seat w ↦
          let more : count_of value ≡ k.0 + 1 =
          ⊎_elim
          (λ (same : count_of value ≡ k.0). absurd (omega (arith, same, held.0, c.count.ensures, w.if-count-seat.true)))
          (λ (more : (count_of value ≡ k.0 + 1) × (c.args.seat.now.gives < MOST_GIVES)). more.0)
          k.2 in
          let raised = IsReady-raised k.0 (count_of value) w.fetch_add.result inside.seat.me w.fetch_add.new.seat.me
          is.some_part held.1 more w.fetch_add.ensures.2 in (
            ap (λ x. x.seat.table_id) w.seat-inside-is ∙ w.fetch_add.ensures.0,
            subst (IsReady inside.seat.me.0.name (count_of value)) (sym (ap (λ x. x.seat.me) w.seat-inside-is)) raised,
          )
      | else-count-seat w ↦
          let same : count_of value ≡ k.0 = omega (arith, held.0, c.count.ensures, w.if-count-seat.false) in
          let as_it_was = IsReady-same k.0 (count_of value) inside.seat.me is.some_part held.1 same in (
            ap (λ x. x.seat.table_id) w.seat-inside-is,
            subst (IsReady inside.seat.me.0.name (count_of value)) (sym (ap (λ x. x.seat.me) w.seat-inside-is)) as_it_was,
          )
    ] in
    let r = ready.1 in
    let me : c.exchange-empty.new.seat.me ≡ (mid.me.0, (0, Some value) ∷ []) =
    c.exchange-empty.ensures.3 ∙ ap (λ xs. (mid.me.0, (0, Some value) ∷ rest xs)) r.empty in
    let named : g.T.Held.name_of value ≡ c.exchange-empty.new.seat.me.0.name =
    c.requires.name ∙ (sym (ap (λ v. v.name) c.seat.view_is) ∙ (sym r.named ∙ sym (ap (λ m. m.0.name) me))) in (
      c.exchange-empty.ensures.0 ∙ (ready.0 ∙ one_table _ _ _ _ c.seat.view_is c.self.view_is c.requires.turn),
      omega (arith, c.self.invariant.0),
      giving_keeps count_of g.T.Held.name_of c.self.inside.table.shared.key _ c.exchange-empty.new.seat.id r.hold value
          c.exchange-empty.new.seat.me (omega (arith, r.some_part, ap (λ m. m.0.parts) me))
          (ap (λ m. m.0.hold) me ∙ r.holds) (ap (λ m. m.1) me) named r.counted,
    )
