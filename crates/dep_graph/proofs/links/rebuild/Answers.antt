use Rattle.std.proofs.Common.{◌≡◌, ◌≤◌, ◌+◌, length, sym, ap, ◌∙◌, subst, arith}
use Rattle.std.specs.Prelude.{None, Some}
use Rattle.std.specs.Vec.{vec_capacity}
use Rattle.slab.specs.Slab.{Slab, slab_len}
use Rattle.dep_graph.specs.declared.graph.Cell.{Cell}
use Rattle.dep_graph.specs.Links.{newest_of}
use Rattle.dep_graph.proofs.CellLemmas.{slab_len-with}
use Rattle.dep_graph.proofs.LinkLemmas.{started, named}
use Rattle.dep_graph.proofs.RebuildLemmas.{IsRebuilt-gap, IsRebuilt-more, AreLinked-rebuilt, next_of, next_some, next_none, from_some}
use Rattle.dep_graph.proofs.links.rebuild.Goals as goal
use Rattle.dep_graph.proofs.links.rebuild.Goals.{in-Some, in_default, in-Some-next, in-None}

pub returns-clause-linked : goal.returns-clause-linked
returns-clause-linked c =
    AreLinked-rebuilt c.args.cells.now c.loop-slot.cells c.args.links.now c.loop-slot.fresh.items c.loop-slot.slot-index c.requires.linked (omega (arith, c.loop-slot-test.false)) c.loop-slot.invariant.rebuilt

pub loop-slot-preserved : goal.loop-slot-preserved
loop-slot-preserved c =
    let was = c.loop-slot.invariant in
    let old = c.args.cells.now in
    let links = c.args.links.now in
    let cells = c.loop-slot.cells in
    let fresh = c.loop-slot.fresh.items in
    let k = c.loop-slot.slot-index in
    let below = c.loop-slot-test.true in
    elim c.match-slot.branch [
      | in-Some w ↦
          let link = w.in-Some.link in
          let here = w.in-Some.is in
          let follows = next_of links k link c.requires.linked.chained below here in
          let at_from = from_some old cells links fresh k link c.requires.linked below here was.rebuilt in
          let next : w.match-link.next ≡ newest_of fresh link.first.0 = elim w.match-link.branch [
            | in-Some-next v ↦ v.next-is ∙ next_some old cells links fresh k _ link v.index.result.now was.rebuilt follows v.in-Some-next.is (named cells link.from link.first.0 v.index.result.now v.index.ensures at_from) v.index.ensures
            | in-None v ↦ v.next-is ∙ next_none old cells links fresh k link was.rebuilt follows v.in-None.is
          ] in
          let at : w.len.result ≡ length fresh = omega (arith, w.len.ensures, c.loop-slot.fresh.ok.0) in
          let more = IsRebuilt-more old cells links fresh k w.len.result link w.match-link.next w.index_mut.result.now c.requires.linked below here was.rebuilt next at w.index_mut.ensures.value in
          let size = slab_len-with cells link.from w.index_mut.result.now (started w.index_mut.result.now (Some w.len.result)) w.index_mut.ensures.value in
          rw (w.cells-is, w.fresh-is, w.push_reserved.ensures.items) (record {
            rebuilt = more;
            cells_len = size ∙ was.cells_len;
            cells_capacity = was.cells_capacity;
            bound = omega (arith, w.push_reserved.ensures.len, was.bound);
            capacity = w.push_reserved.ensures.capacity ∙ was.capacity;
          })
      | in_default w ↦
          rw (w.cells-is, w.fresh-is) (record {
            rebuilt = IsRebuilt-gap old cells links fresh k below w.in_default.is was.rebuilt;
            cells_len = was.cells_len;
            cells_capacity = was.cells_capacity;
            bound = omega (arith, was.bound);
            capacity = was.capacity;
          })
    ]
