use Rattle.std.proofs.Common.{subst}
use Rattle.dep_graph.specs.Table.{TableView, AreRising}
use Rattle.dep_graph.proofs.TableLemmas.{AreRising-entries}
use Rattle.dep_graph.proofs.table.EventTable.recall_rising.Goals as goal

pub returns : goal.returns
returns c = subst (λ (t : TableView). AreRising t.entries) c.self.view_is (AreRising-entries c.self.inside.places.items c.self.invariant.rising)
