use Rattle.std.proofs.Common.{◌≡◌, ◌<◌, ℕ, false, eqb, get_or, subst, ap, sym, ◌∙◌, inl, inr, arith, length}
use Rattle.std.proofs.lemmas.Bool.{cases_eq, ne_eqb}
use Rattle.std.proofs.lemmas.List.{get_or-map, length-map}
use Rattle.kr_order.specs.declared.ids.EventId.{EventId}
use Rattle.reach.proofs.search.lead_to.Goals as goal

pub loop-pair-init : goal.loop-pair-init
loop-pair-init c k below = absurd (omega (arith, below))

pub loop-pair-preserved : goal.loop-pair-preserved
loop-pair-preserved c k below =
    elim (cases_eq k c.loop-pair.pair-index) [
      | inl same ↦ subst (λ i. eqb (get_or c.args.pairs.now i (record { 0 = 0 }, record { 0 = 0 })).1.0 c.args.goal.0 ≡ false) (sym same) (ne_eqb (get_or c.args.pairs.now c.loop-pair.pair-index (record { 0 = 0 }, record { 0 = 0 })).1.0 c.args.goal.0 c.if-pair-goal.false)
      | inr other ↦ c.loop-pair.invariant k (omega (arith, below, other))
    ]

pub returns : goal.returns
returns c _ k d below =
    let pairs = c.args.pairs.now in
    let number : EventId × EventId → ℕ × ℕ = λ pair. (pair.0.0, pair.1.0) in
    let in_pairs : k < length pairs = omega (arith, below, length-map pairs number) in
    ap (λ pair. eqb pair.1 c.args.goal.0) (get_or-map number pairs k (record { 0 = 0 }, record { 0 = 0 }) d in_pairs) ∙ c.loop-pair.invariant k (omega (arith, in_pairs, c.loop-pair-test.false))
