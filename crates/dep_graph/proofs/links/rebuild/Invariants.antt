use Rattle.std.proofs.Common.{◌≡◌, ◌≤◌, vec_len}
use Rattle.std.specs.Vec.{vec_capacity}
use Rattle.slab.specs.Slab.{slab_len}
use Rattle.dep_graph.proofs.RebuildLemmas.{IsRebuilt}
use Rattle.dep_graph.proofs.links.rebuild.Given as goal

abbrev pub invariant-loop-slot : goal.invariant-loop-slot
invariant-loop-slot l = record {
  rebuilt : IsRebuilt l.fn.cells l.cells l.links l.fresh.items l.slot-index;
  cells_len : slab_len l.cells ≡ slab_len l.fn.cells;
  cells_capacity : l.cells.capacity ≡ l.fn.cells.capacity;
  bound : vec_len l.fresh ≤ l.slot-index;
  capacity : vec_capacity l.fresh ≡ vec_capacity l.fn.fresh;
}
