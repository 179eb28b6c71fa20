use Rattle.std.proofs.Common.{◌≡◌, ◌≤◌, ◌+◌, length, sym, ap, ◌∙◌, arith}
use Rattle.std.proofs.lemmas.List.Sums.{length-filter, count_by-le-length}
use Rattle.ref_collect.specs.Needed.{is_needed, needed_events, needed_pairs, NeedsTheSame}
use Rattle.ref_collect.proofs.RootLemmas.{needed_events_all, needed_pairs_all}
use Rattle.ref_collect.proofs.removal.collect.Goals as goal

pub returns-clause-vertices : goal.returns-clause-vertices
returns-clause-vertices c =
    let counts = c.args.refs.now.counts in
    let new = c.remove_bare.new.graph in
    sym (needed_events_all counts new.pairs new.vertices c.recall_graph.ensures.joined c.recall_graph.ensures.acyclic c.remove_bare.ensures.kept) ∙ c.remove_bare.ensures.same.events ∙ c.remove_if_idle.ensures.same.events

pub returns-clause-pairs : goal.returns-clause-pairs
returns-clause-pairs c =
    let counts = c.args.refs.now.counts in
    let new = c.remove_bare.new.graph in
    sym (needed_pairs_all counts new.pairs new.vertices c.recall_graph.ensures.joined c.recall_graph.ensures.acyclic c.remove_bare.ensures.kept) ∙ c.remove_bare.ensures.same.pairs ∙ c.remove_if_idle.ensures.same.pairs

pub overflow_sub-result : goal.overflow_sub-result
overflow_sub-result c =
    let counts = c.args.refs.now.counts in
    let old = c.args.graph.now in
    let new = c.remove_bare.new.graph in
    let left = sym (needed_events_all counts new.pairs new.vertices c.recall_graph.ensures.joined c.recall_graph.ensures.acyclic c.remove_bare.ensures.kept) ∙ c.remove_bare.ensures.same.events ∙ c.remove_if_idle.ensures.same.events in
    omega (arith, ap length left, length-filter (is_needed counts old.pairs old.vertices) old.vertices, count_by-le-length (is_needed counts old.pairs old.vertices) old.vertices, c.held.ensures, c.held-held.ensures)

pub returns-clause-gone : goal.returns-clause-gone
returns-clause-gone c =
    let counts = c.args.refs.now.counts in
    let old = c.args.graph.now in
    let new = c.remove_bare.new.graph in
    let left = sym (needed_events_all counts new.pairs new.vertices c.recall_graph.ensures.joined c.recall_graph.ensures.acyclic c.remove_bare.ensures.kept) ∙ c.remove_bare.ensures.same.events ∙ c.remove_if_idle.ensures.same.events in
    omega (arith, ap length left, length-filter (is_needed counts old.pairs old.vertices) old.vertices, count_by-le-length (is_needed counts old.pairs old.vertices) old.vertices, c.held.ensures, c.held-held.ensures)
