use Rattle.std.proofs.Common.{◌≡◌, ◌∙◌, ap, refl}
use Rattle.dep_graph.specs.declared.table.Place.{Place}
use Rattle.dep_graph.specs.Table.{TableView, with_number}
use Rattle.dep_graph.proofs.TableLemmas.{ArePlaces-set, entries_in-set}
use Rattle.dep_graph.proofs.table.EventTable.set.Goals as goal

pub invariant_of-self : goal.invariant_of-self
invariant_of-self c =
    let at = rw c.as_slice.ensures.value at c.filled_place-i.ensures in
    ArePlaces-set c.self.inside.places.items c.self.inside.filled c.args.event c.filled_place-i.result c.args.number _ c.index_mut.result.now c.self.invariant at (ap (λ (place : Place). place.event) c.index_mut.ensures.value) refl

pub returns-clause-entries : goal.returns-clause-entries
returns-clause-entries c =
    let at = rw c.as_slice.ensures.value at c.filled_place-i.ensures in
    let d = c.index_mut.result.now in
    entries_in-set c.self.inside.places.items c.filled_place-i.result c.args.event c.args.number _ d c.self.invariant.rising at.at.below (at.at.named d) (at.filled d) (ap (λ (place : Place). place.event) c.index_mut.ensures.value ∙ at.at.named d) refl ∙ ap (λ (t : TableView). with_number t.entries c.args.event c.args.number) c.self.view_is
