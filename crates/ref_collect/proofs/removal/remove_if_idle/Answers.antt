use Rattle.std.proofs.Common.{◌≡◌, sym, ap, ◌∙◌, subst}
use Rattle.ref_collect.specs.Needed.{AreWaiting}
use Rattle.ref_collect.proofs.WaitingLemmas.{AreWaiting-none}
use Rattle.ref_collect.proofs.removal.remove_if_idle.Goals as goal

pub returns-else-in_count-eq0-clause-waiting : goal.returns-else-in_count-eq0-clause-waiting
returns-else-in_count-eq0-clause-waiting c =
    let counts = c.args.refs.now.counts in
    let graph = c.args.graph.now in
    subst (AreWaiting counts graph.pairs graph.vertices) (sym c.requires.bare) (AreWaiting-none counts graph.pairs graph.vertices c.args.id.0 c.requires.others (λ none. c.if-in_count-eq0.false (c.in_count.ensures ∙ none)))
