use Rattle.std.proofs.Common.{◌≡◌, ℕ, ◌+◌, ◌-◌, ◌≤◌, List, [], ◌∷◌, ◌++◌, min, length, subst, sym, ap, ◌∙◌, refl, arith, length-append}
use Rattle.std.specs.Prelude.{Option, Some, IfSome, vec_len}
use Rattle.std.specs.Vec.{vec_capacity}
use Rattle.std.proofs.lemmas.Option.{same_Some}
use Rattle.std.proofs.lemmas.List.Sums.{count_by-le-length}
use Rattle.slab.specs.Slab.{slab_len, with_value}
use Rattle.dep_graph.specs.declared.outs.Link.{Link}
use Rattle.dep_graph.specs.declared.graph.Cell.{Cell}
use Rattle.dep_graph.specs.GraphView.{GraphView, event_at, ins_of, CanAdd}
use Rattle.dep_graph.specs.Links.{pairs_in, slots_of}
use Rattle.dep_graph.proofs.CellLemmas.{slab_len-with}
use Rattle.dep_graph.proofs.LinkLemmas.{started, counted, AreEnds, slots_of-cells_with, pairs_in-push, second_few}
use Rattle.dep_graph.proofs.ChangeLemmas.{IsSound-pair}
use Rattle.dep_graph.proofs.graph.Graph.add_pair.Goals as goal

-- a cell that a look-up gave is the event's
at_cell : (view own : GraphView) (found : Option ℕ) (cell event : ℕ) → own ≡ view → found ≡ Some cell → IfSome found (λ k. event_at view.slots k ≡ Some event) → event_at own.slots cell ≡ Some event
at_cell view own found cell event same is holds =
    ap (λ (g : GraphView). event_at g.slots cell) same ∙ subst (λ o. IfSome o (λ k. event_at view.slots k ≡ Some event)) is holds

pub overflow_add-index_mut : goal.overflow_add-index_mut
overflow_add-index_mut c =
    let own = c.self.inside in
    let from = at_cell c.args.self.now _ c.cell_of.result c.unwrap-from.result c.args.a.0 c.self.view_is c.unwrap-from.ensures c.cell_of.ensures.found in
    let to = at_cell c.args.self.now _ c.cell_of-2.result c.unwrap-to.result c.args.b.0 c.self.view_is c.unwrap-to.ensures c.cell_of-2.ensures.found in
    let ends : AreEnds own.cells c.unwrap-from.result c.unwrap-to.result c.args.a.0 c.args.b.0 c.index_mut.result.now c.index_mut-2.result.now (Some c.len-at.result) = record { in_from = c.index_mut.ensures.value; in_to = c.index_mut-2.ensures.value; at_from = from; at_to = to; apart = c.requires.fits.apart } in
    let few = second_few own.cells own.links.items c.unwrap-from.result c.unwrap-to.result c.args.a.0 c.args.b.0 c.index_mut.result.now c.index_mut-2.result.now (Some c.len-at.result) c.self.invariant.0.linked ends in
    omega (arith, few, c.self.invariant.1.counted, c.self.invariant.1.room, own.bare.small)

pub invariant_of-self : goal.invariant_of-self
invariant_of-self c =
    let own = c.self.inside in
    let fits = subst (λ (g : GraphView). CanAdd g.vertices g.pairs c.args.a.0 c.args.b.0) (sym c.self.view_is) c.requires.fits in
    let from = at_cell c.args.self.now _ c.cell_of.result c.unwrap-from.result c.args.a.0 c.self.view_is c.unwrap-from.ensures c.cell_of.ensures.found in
    let to = at_cell c.args.self.now _ c.cell_of-2.result c.unwrap-to.result c.args.b.0 c.self.view_is c.unwrap-to.ensures c.cell_of-2.ensures.found in
    let ends : AreEnds own.cells c.unwrap-from.result c.unwrap-to.result c.args.a.0 c.args.b.0 c.index_mut.result.now c.index_mut-2.result.now (Some c.len-at.result) = record { in_from = c.index_mut.ensures.value; in_to = c.index_mut-2.ensures.value; at_from = from; at_to = to; apart = c.requires.fits.apart } in
    let next : c.index.result.now ≡ c.index_mut.result.now = same_Some c.index.result.now c.index_mut.result.now (sym c.index.ensures ∙ c.index_mut.ensures.value) in
    let at : c.len-at.result ≡ length own.links.items = omega arith in
    let link : Link = record { first = c.args.a; second = c.args.b; from = c.unwrap-from.result; to = c.unwrap-to.result; next = c.index.result.now.newest } in
    let room : 1 ≤ vec_capacity own.bare - vec_len own.bare - own.count = omega (arith, c.requires.room, ap (λ (g : GraphView). g.spare_pairs) c.self.view_is) in
    rw c.push_reserved.ensures.items (
      IsSound-pair own.keys.entries own.cells own.links.items own.bare.items link c.index_mut.result.now c.index_mut-2.result.now c.len-at.result c.self.invariant.0 fits ends at (ap (λ (cell : Cell). cell.newest) next),
      record {
        counted = omega (arith, c.self.invariant.1.counted, ap length (pairs_in-push own.links.items link), length-append (pairs_in own.links.items) ((c.args.a.0, c.args.b.0) ∷ []));
        room = omega (arith, room, own.bare.ok.0);
      },
    )

pub returns-clause-pairs : goal.returns-clause-pairs
returns-clause-pairs c =
    ap pairs_in c.push_reserved.ensures.items ∙ pairs_in-push c.self.inside.links.items _ ∙ ap (λ (g : GraphView). g.pairs ++ (c.args.a.0, c.args.b.0) ∷ []) c.self.view_is

pub returns-clause-slots : goal.returns-clause-slots
returns-clause-slots c =
    slots_of-cells_with c.self.inside.cells c.unwrap-from.result c.unwrap-to.result c.index_mut.result.now c.index_mut-2.result.now (Some c.len-at.result) _ c.index_mut.ensures.value c.index_mut-2.ensures.value ∙ ap (λ (g : GraphView). g.slots) c.self.view_is

pub returns-clause-spare_vertices : goal.returns-clause-spare_vertices
returns-clause-spare_vertices c =
    let own = c.self.inside in
    let first = c.index_mut.result.now in
    let second = c.index_mut-2.result.now in
    let then = with_value own.cells c.unwrap-from.result (started first (Some c.len-at.result)) in
    let same : slab_len (with_value then c.unwrap-to.result (counted second (second.in_count + 1))) ≡ slab_len own.cells = slab_len-with then c.unwrap-to.result second (counted second (second.in_count + 1)) c.index_mut-2.ensures.value ∙ slab_len-with own.cells c.unwrap-from.result first (started first (Some c.len-at.result)) c.index_mut.ensures.value in
    ap (λ n. min own.keys.spare (own.cells.capacity - n)) same ∙ ap (λ (g : GraphView). g.spare_vertices) c.self.view_is
