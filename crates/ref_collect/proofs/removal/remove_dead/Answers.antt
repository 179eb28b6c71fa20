use Rattle.std.proofs.Common.{◌≡◌, ◌<◌, ◌≤◌, ◌+◌, ℕ, List, true, length, sym, ap, ◌∙◌, subst, arith}
use Rattle.std.specs.List.{All}
use Rattle.dep_graph.specs.GraphView.{is_held}
use Rattle.ref_collect.specs.Needed.{AreWaiting, NeedsTheSame}
use Rattle.ref_collect.proofs.NeededLemmas.{needs_the_same}
use Rattle.ref_collect.proofs.WaitingLemmas.{last_apart, last_source, AreWaiting-live, AreWaiting-gone, bared_few}
use Rattle.ref_collect.proofs.removal.remove_dead.Goals as goal

pub remove_source-requires-clause-apart : goal.remove_source-requires-clause-apart
remove_source-requires-clause-apart c =
    last_apart c.args.refs.now.counts c.args.graph.now.pairs c.args.graph.now.vertices c.args.graph.now.bare c.args.id.0 c.requires

pub returns-then-count-eq0-clause-waiting : goal.returns-then-count-eq0-clause-waiting
returns-then-count-eq0-clause-waiting c =
    let then = c.remove_source.ensures in
    let held = rw (then.vertices, then.bare) at c.recall_graph-then-count-eq0.ensures.bare in
    rw (then.vertices, then.pairs, then.bare) (AreWaiting-gone c.args.refs.now.counts c.args.graph.now.pairs c.args.graph.now.vertices c.args.graph.now.bare c.args.id.0 c.requires c.recall_graph.ensures.distinct held)

pub returns-then-count-eq0-clause-same : goal.returns-then-count-eq0-clause-same
returns-then-count-eq0-clause-same c =
    let then = c.remove_source.ensures in
    rw (then.vertices, then.pairs) (needs_the_same c.args.refs.now.counts c.args.graph.now.pairs c.args.graph.now.vertices c.args.id.0 (sym c.count.ensures ∙ c.if-count-eq0.true) (last_source c.args.refs.now.counts c.args.graph.now.pairs c.args.graph.now.vertices c.args.graph.now.bare c.args.id.0 c.requires))

pub returns-then-count-eq0-clause-fewer : goal.returns-then-count-eq0-clause-fewer
returns-then-count-eq0-clause-fewer c =
    let then = c.remove_source.ensures in
    omega (arith, ap length then.bare, ap length then.pairs, bared_few c.args.graph.now.pairs c.args.graph.now.bare c.args.id.0)

pub returns-else-count-eq0-clause-waiting : goal.returns-else-count-eq0-clause-waiting
returns-else-count-eq0-clause-waiting c =
    AreWaiting-live c.args.refs.now.counts c.args.graph.now.pairs c.args.graph.now.vertices c.args.graph.now.bare c.args.id.0 c.requires (omega (arith, c.count.ensures, c.if-count-eq0.false))
