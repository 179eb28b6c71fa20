use Rattle.std.proofs.Common.{◌≡◌, length, subst, arith, rules}
use Rattle.clock_import.proofs.WalkLemmas.{IsOrdering, ordering_starts, ordering_more, all_ordered}
use Rattle.clock_import.proofs.order.order_over.Goals as goal

pub loop-e-init : goal.loop-e-init
loop-e-init c =
    ordering_starts c.args.links.now (length c.args.done.now) c.args.done.now c.args.taken.now c.new-order.result.items c.requires.walk c.new-order.ensures.items

pub loop-e-preserved : goal.loop-e-preserved
loop-e-preserved c =
    ordering_more c.args.links.now (length c.args.done.now) c.loop-e.e c.loop-e.done c.loop-e.taken c.visit.new.done c.visit.new.taken c.loop-e.order.items c.visit.new.order.items c.in_ok-ordered.ordered c.loop-e.invariant (search rules) c.in_ok-ordered.ensures

pub returns : goal.returns
returns c =
    let all : c.loop-e.e ≡ length c.args.done.now = omega arith in
    all_ordered c.args.links.now (length c.args.done.now) c.loop-e.done c.loop-e.taken c.loop-e.order.items (subst (λ e. IsOrdering c.args.links.now (length c.args.done.now) e c.loop-e.done c.loop-e.taken c.loop-e.order.items) all c.loop-e.invariant)
