use Rattle.std.proofs.Common.{sym, ◌∙◌}
use Rattle.reach.proofs.CellLemmas.{is_in-events}
use Rattle.reach.proofs.pairs.has_first.Goals as goal

pub returns : goal.returns
returns c =
    c.has.ensures ∙ sym (is_in-events c.args.graph.now.slots c.args.found.now.cells c.cell_of-first.result c.args.pair.now.0.0 (record { one = c.recall_graph.ensures.one_cell }) c.requires.placed c.cell_of-first.ensures.event)
