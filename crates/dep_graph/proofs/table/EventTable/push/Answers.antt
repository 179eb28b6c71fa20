use Rattle.std.proofs.Common.{◌≡◌, ◌<◌, ◌++◌, [], ◌∷◌, length, ◌∙◌, ap, sym, subst, refl, arith}
use Rattle.std.specs.List.{All}
use Rattle.dep_graph.specs.Table.{TableView}
use Rattle.dep_graph.specs.Places.{entries_in}
use Rattle.dep_graph.proofs.TableLemmas.{length-entries_in-le, ArePlaces-push, entries_in-push, entries_in-trim}
use Rattle.dep_graph.proofs.table.EventTable.push.Goals as goal

pub overflow_add-self : goal.overflow_add-self
overflow_add-self c =
    omega (arith, c.self.invariant.counted, length-entries_in-le c.self.inside.places.items, c.self.inside.places.ok.0, c.self.inside.places.ok.1)

pub invariant_of-self : goal.invariant_of-self
invariant_of-self c =
    let greatest = subst (λ (t : TableView). All (λ entry. entry.0 < c.args.event) t.entries) (sym c.self.view_is) c.requires.greatest in
    rw c.push_reserved.ensures.items (ArePlaces-push c.self.inside.places.items c.trim.new.places.items c.self.inside.filled c.args.number _ c.self.invariant c.trim.ensures.front c.trim.ensures.last greatest refl)

pub returns-clause-entries : goal.returns-clause-entries
returns-clause-entries c =
    ap entries_in c.push_reserved.ensures.items ∙ entries_in-push c.trim.new.places.items _ c.args.number refl ∙ ap (λ entries. entries ++ (c.args.event, c.args.number) ∷ []) (entries_in-trim c.self.inside.places.items c.trim.new.places.items c.trim.ensures.front ∙ ap (λ (t : TableView). t.entries) c.self.view_is)
