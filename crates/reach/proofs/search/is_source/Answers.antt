use Rattle.std.proofs.Common.{false, ◌++◌, eqb, sym, ◌∙◌, ◌≡◌}
use Rattle.std.proofs.lemmas.Bool.{not-true}
use Rattle.std.proofs.lemmas.List.Elements.{All-append}
use Rattle.dep_graph.proofs.ChangeLemmas.{no_second}
use Rattle.reach.specs.Search.{numbered}
use Rattle.reach.proofs.EndLemmas.{reach-source}
use Rattle.reach.proofs.search.is_source.Goals as goal

pub returns-then-in_count-eq0 : goal.returns-then-in_count-eq0
returns-then-in_count-eq0 c none a =
    let pairs = c.args.graph.now.pairs in
    let extra = numbered c.args.extra.now in
    let goal_event = c.args.goal.0 in
    reach-source (pairs ++ extra) a goal_event (All-append (λ pair. eqb pair.1 goal_event ≡ false) pairs extra (no_second pairs goal_event (sym c.in_count.ensures ∙ c.if-in_count-eq0.true)) (c.lead_to.ensures (not-true c.lead_to.result none)))
