use Rattle.std.proofs.Common.{◌≡◌, ◌<◌, ap, sym, ◌∙◌, rules, length, subst}
use Rattle.std.specs.Prelude.{is_some}
use Rattle.std.specs.List.{filter}
use Rattle.std.proofs.lemmas.List.Elements.{filter_from_retain}
use Rattle.std.proofs.lemmas.List.Kept.{AllPairs-filter}
use Rattle.dep_graph.specs.declared.table.Place.{Place}
use Rattle.dep_graph.specs.Table.{TableView}
use Rattle.dep_graph.specs.Places.{ArePlaces, entries_in}
use Rattle.dep_graph.proofs.TableLemmas.{entries_in-filled}
use Rattle.dep_graph.proofs.table.EventTable.close.Goals as goal

pub invariant_of-self : goal.invariant_of-self
invariant_of-self c =
    let is = filter_from_retain _ (λ (place : Place). is_some place.number) (λ p x b q called. search rules) _ _ _ c.retain.ensures.filtered in
    rw is (record {
      rising = AllPairs-filter (λ (x y : Place). x.event < y.event) (λ (place : Place). is_some place.number) c.self.inside.places.items c.self.invariant.rising;
      counted = c.self.invariant.counted ∙ sym (ap length (entries_in-filled c.self.inside.places.items));
    })

pub returns-clause-entries : goal.returns-clause-entries
returns-clause-entries c =
    let is = filter_from_retain _ (λ (place : Place). is_some place.number) (λ p x b q called. search rules) _ _ _ c.retain.ensures.filtered in
    ap entries_in is ∙ entries_in-filled c.self.inside.places.items ∙ ap (λ (t : TableView). t.entries) c.self.view_is
