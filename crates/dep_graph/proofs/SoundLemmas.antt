-- What always holds of a graph.
use Rattle.std.proofs.Common.{◌≡◌, ℕ, ◌<◌, true, List, [], ◌∷◌, ◌++◌, length, get_or, sym, ap, ◌∙◌, subst, arith}
use Rattle.std.specs.Prelude.{Option, None, Some, map}
use Rattle.std.specs.List.{All}
use Rattle.std.proofs.lemmas.Option.{same_Some}
use Rattle.std.proofs.lemmas.List.{get_or-append-add}
use Rattle.slab.specs.Slab.{Slab, get}
use Rattle.dep_graph.specs.declared.outs.Link.{Link}
use Rattle.dep_graph.specs.declared.graph.Cell.{Cell}
use Rattle.dep_graph.specs.Table.{AreRising, number_of}
use Rattle.dep_graph.specs.GraphView.{event_at, is_held, IsGraph}
use Rattle.dep_graph.specs.Links.{pairs_in, slot_of, slots_of, newest_of, JoinsCells, IsBetween, AreLinked, IsSound}
use Rattle.dep_graph.proofs.HeldLemmas.{events_of, key_of, held_at, rising_events}
use Rattle.dep_graph.proofs.CellLemmas.{Holds, holds, event_at-cell}

-- what holds of every graph
pub IsGraph-sound : (keys : List (ℕ × ℕ)) (cells : Slab Cell) (links : List (Option Link)) (bare : List ℕ) (spare_vertices spare_pairs : ℕ) → AreRising keys → IsSound keys cells links bare → IsGraph (record { vertices = events_of keys; pairs = pairs_in links; bare = bare; spare_vertices = spare_vertices; spare_pairs = spare_pairs; slots = slots_of cells })
IsGraph-sound keys cells links bare spare_vertices spare_pairs rising sound =
    record {
      rising = rising_events keys rising;
      joined = sound.joined;
      distinct = sound.distinct;
      acyclic = sound.acyclic;
      bare = sound.bare;
      held = λ cell event is. held_at keys event cell (sound.listed event cell is);
      placed = λ event held.
          let key = key_of keys event held in
          (key.key, sound.placed event key.key key.is);
      one_cell = λ c d event in_c in_d. same_Some c d (sym (sound.listed event c in_c) ∙ sound.listed event d in_d);
    }

-- the cells stay linked where they keep their events, and what else is asked of them is so
pub JoinsCells-same : (old new : Slab Cell) (slot : Option Link) → slots_of new ≡ slots_of old → JoinsCells old slot → JoinsCells new slot
JoinsCells-same old new None same joins = tt
JoinsCells-same old new (Some link) same joins =
    record { from = ap (λ slots. event_at slots link.from) same ∙ joins.from; to = ap (λ slots. event_at slots link.to) same ∙ joins.to }
