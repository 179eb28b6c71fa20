use Rattle.std.proofs.Common.{◌≡◌, refl, sym, ap, ◌∙◌, subst, ℕ, List, length}
use Rattle.std.specs.Prelude.{Option, Some, map, reverse}
use Rattle.std.specs.List.{All}
use Rattle.std.proofs.lemmas.Option.{same_Some}
use Rattle.std.proofs.lemmas.List.{length-reverse}
use Rattle.dep_graph.specs.declared.outs.Link.{Link}
use Rattle.dep_graph.specs.GraphView.{GraphView, event_at, outs_of}
use Rattle.dep_graph.specs.Links.{chain, newest_of, slots_of, IsBelow, JoinsCells}
use Rattle.dep_graph.proofs.CellLemmas.{event_at-cell}
use Rattle.dep_graph.proofs.ChainLemmas.{All-chain, chain-newest, newest_in-below}
use Rattle.dep_graph.proofs.graph.Graph.outs_at.Goals as goal

pub new-requires-clause-below : goal.new-requires-clause-below
new-requires-clause-below c =
    let links = c.self.inside.links.items in
    let newest = c.self.invariant.0.linked.newest c.args.cell c.index.result.now c.index.ensures in
    rw c.as_slice.ensures.value (subst (λ n. IsBelow n c.index.result.now.newest) (length-reverse links) (subst (IsBelow (length (reverse links))) (sym newest) (newest_in-below (reverse links) c.index.result.now.event.0)))

pub returns-clause-events : goal.returns-clause-events
returns-clause-events c event is =
    let own = c.self.inside in
    let links = own.links.items in
    let cell = c.index.result.now in
    let in_slots : event_at (slots_of own.cells) c.args.cell ≡ Some event = ap (λ (g : GraphView). event_at g.slots c.args.cell) c.self.view_is ∙ is in
    let named : cell.event.0 ≡ event = same_Some cell.event.0 event (sym (event_at-cell own.cells c.args.cell cell c.index.ensures) ∙ in_slots) in
    let walk : c.new.result ≡ chain links (newest_of links event) = c.new.ensures ∙ ap (λ (ls : List (Option Link)). chain ls cell.newest) c.as_slice.ensures.value ∙ ap (chain links) (c.self.invariant.0.linked.newest c.args.cell cell c.index.ensures ∙ ap (newest_of links) named) in
    subst (λ (g : GraphView). map (λ (out : ℕ × ℕ). out.1) c.new.result ≡ outs_of g.pairs event) c.self.view_is (ap (map (λ (out : ℕ × ℕ). out.1)) walk ∙ chain-newest links event c.self.invariant.0.linked.chained)

pub returns-clause-cells : goal.returns-clause-cells
returns-clause-cells c =
    let cells = c.self.inside.cells in
    subst (λ (g : GraphView). All (λ out. event_at g.slots out.0 ≡ Some out.1) c.new.result) c.self.view_is (rw (c.new.ensures, c.as_slice.ensures.value) (All-chain (λ (out : ℕ × ℕ). event_at (slots_of cells) out.0 ≡ Some out.1) (JoinsCells cells) (λ link joins. joins.to) c.self.inside.links.items c.index.result.now.newest c.self.invariant.0.linked.leads))
