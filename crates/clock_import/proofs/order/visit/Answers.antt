use Rattle.std.proofs.Common.{subst}
use Rattle.clock_import.proofs.WalkLemmas.{IsVisiting, visit_turns, visit_pushes, visit_does}
use Rattle.clock_import.proofs.order.visit.Goals as goal

pub returns-then-taken-a : goal.returns-then-taken-a
returns-then-taken-a c =
    visit_turns c.args.links.now c.args.e c.args.done.now c.loop-top.done c.loop-top.taken c.loop-top.order.items c.pop.new.self.items c.in-Some.top c.in-Some-awaited.a (subst (IsVisiting c.args.links.now c.args.e c.args.done.now c.loop-top.done c.loop-top.taken c.loop-top.order.items) c.in-Some.ensures.items c.loop-top.invariant) c.in-Some-awaited.ensures.0 c.in-Some-awaited.ensures.1 c.in-Some-awaited.ensures.2 c.if-taken-a.true

pub loop-top-preserved-in-Continue-branch-3 : goal.loop-top-preserved-in-Continue-branch-3
loop-top-preserved-in-Continue-branch-3 c =
    rw (c.in_ok-push-in-Some-awaited-2.ensures.items, c.in_ok-push-in-Some-awaited.ensures.items) (visit_pushes c.args.links.now c.args.e c.args.done.now c.loop-top.done c.loop-top.taken c.loop-top.order.items c.pop.new.self.items c.in-Some.top c.in-Some-awaited.a (subst (IsVisiting c.args.links.now c.args.e c.args.done.now c.loop-top.done c.loop-top.taken c.loop-top.order.items) c.in-Some.ensures.items c.loop-top.invariant) c.in-Some-awaited.ensures.0 c.in-Some-awaited.ensures.1)

pub loop-top-preserved : goal.loop-top-preserved
loop-top-preserved c =
    rw c.in_ok-push-in-None.ensures.items (visit_does c.args.links.now c.args.e c.args.done.now c.loop-top.done c.loop-top.taken c.loop-top.order.items c.pop.new.self.items c.in-Some.top (subst (IsVisiting c.args.links.now c.args.e c.args.done.now c.loop-top.done c.loop-top.taken c.loop-top.order.items) c.in-Some.ensures.items c.loop-top.invariant) c.in-None.ensures)
