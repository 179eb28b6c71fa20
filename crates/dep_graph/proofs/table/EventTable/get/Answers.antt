use Rattle.std.proofs.Common.{◌≡◌, sym, ap, ◌∙◌, rules}
use Rattle.dep_graph.specs.declared.table.Place.{Place}
use Rattle.dep_graph.specs.Table.{TableView, number_of}
use Rattle.dep_graph.proofs.TableLemmas.{number_of-at, number_of-absent}
use Rattle.dep_graph.proofs.table.EventTable.get.Goals as goal

pub returns-in-Some : goal.returns-in-Some
returns-in-Some c =
    let places = c.self.inside.places.items in
    let at = rw c.as_slice.ensures.value at c.in-Some.ensures.found in
    ap (λ (place : Place). place.number) c.index.ensures ∙ sym (number_of-at places c.in-Some.i c.args.event c.index.result.now c.self.invariant.rising at.below (at.named c.index.result.now)) ∙ ap (λ (t : TableView). number_of t.entries c.args.event) c.self.view_is

pub returns-in-None : goal.returns-in-None
returns-in-None c =
    let differ = rw c.as_slice.ensures.value at c.in-None.ensures.none in
    sym (number_of-absent c.self.inside.places.items c.args.event differ) ∙ ap (λ (t : TableView). number_of t.entries c.args.event) c.self.view_is
