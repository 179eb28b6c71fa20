use Rattle.std.proofs.Common.{ℕ, ◌∷◌, List, ap, length, subst, sym, ◌∙◌, arith}
use Rattle.std.proofs.lemmas.Bool.{ne_eqb}
use Rattle.dep_graph.specs.GraphView.{outs_of}
use Rattle.reach.specs.Walk.{event_of}
use Rattle.reach.proofs.CellLemmas.{event_at-below}
use Rattle.reach.proofs.WalkLemmas.{Follows, Follows-more}
use Rattle.reach.proofs.pairs.follow.Goals as goal

pub add-requires : goal.add-requires
add-requires g c =
    let out = c.in-Some.out in
    let slots = c.args.graph.now.slots in
    let outs = outs_of c.args.graph.now.pairs (event_of slots c.args.cell) in
    let was : Follows slots outs c.args.goal.0 c.args.found.now.cells c.loop-out.found.cells ((out.cell, out.event.0) ∷ c.next.new.self) = subst (λ (rest : List (ℕ × ℕ)). Follows slots outs c.args.goal.0 c.args.found.now.cells c.loop-out.found.cells rest) c.in-Some.ensures.steps c.loop-out.invariant.follows in
    omega (arith, event_at-below slots out.cell out.event.0 (was.cells 0 (0, 0) (omega arith)), c.requires.fits, c.loop-out.invariant.room)

pub loop-out-preserved : goal.loop-out-preserved
loop-out-preserved g c =
    let out = c.in-Some.out in
    let slots = c.args.graph.now.slots in
    let outs = outs_of c.args.graph.now.pairs (event_of slots c.args.cell) in
    let was : Follows slots outs c.args.goal.0 c.args.found.now.cells c.loop-out.found.cells ((out.cell, out.event.0) ∷ c.next.new.self) = subst (λ (rest : List (ℕ × ℕ)). Follows slots outs c.args.goal.0 c.args.found.now.cells c.loop-out.found.cells rest) c.in-Some.ensures.steps c.loop-out.invariant.follows in
    let other = ne_eqb out.event.0 c.args.goal.0 c.if-out-goal.false in
    let one = Follows-more slots outs c.args.goal.0 c.args.found.now.cells c.loop-out.found.cells out.cell out.event.0 c.next.new.self (record { one = c.recall_graph.ensures.one_cell }) other was in
    record {
      follows = subst (λ (cells : List ℕ). Follows slots outs c.args.goal.0 c.args.found.now.cells cells c.next.new.self) (sym c.add.ensures.cells) one;
      steps = omega (arith, c.loop-out.invariant.steps, ap (λ (rest : List (ℕ × ℕ)). length rest) c.in-Some.ensures.steps);
      room = c.add.ensures.room ∙ c.loop-out.invariant.room;
    }
