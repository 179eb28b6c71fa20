use Rattle.std.proofs.Common.{◌≡◌, ◌≤◌, vec_len}
use Rattle.std.specs.Vec.{vec_capacity}
use Rattle.dep_graph.specs.Places.{EndsEmpty}
use Rattle.dep_graph.proofs.table.trim.Given as goal

abbrev pub invariant-loop-place : goal.invariant-loop-place
invariant-loop-place l = record {
  front : EndsEmpty l.initial.places.items l.places.items;
  len : vec_len l.places ≤ vec_len l.initial.places;
  capacity : vec_capacity l.places ≡ vec_capacity l.initial.places;
}

abbrev pub decreases-loop-place : goal.decreases-loop-place
decreases-loop-place l = vec_len l.places
