-- How a graph is kept: a cell for each event, and a link for each pair, by their index. A link that was taken out
-- leaves its index empty.
use Rattle.std.specs.Prelude.{◌≡◌, ◌<◌, ◌≤◌, ◌+◌, ℕ, true, false, ◌==◌, if◌then◌else◌, Option, None, Some, IfSome, List, [], ◌∷◌, ◌++◌}
use Rattle.std.specs.Prelude.{length, map, filter_map, reverse}
use Rattle.std.specs.List.{All, AllPairs}
use Rattle.std.specs.Option.{option_map}
use Rattle.kr_order.specs.Order.{IsAcyclic}
use Rattle.dep_graph.specs.declared.outs.Link.{Link}
use Rattle.dep_graph.specs.declared.graph.Cell.{Cell}
use Rattle.slab.specs.Slab.{Slab, get}
use Rattle.dep_graph.specs.Table.{number_of}
use Rattle.dep_graph.specs.GraphView.{is_held, event_at, has_pair, outs_of, ins_of, pairs_without, JoinsHeld}

-- the pair of a link
abbrev pub pair_of : Link → ℕ × ℕ
pair_of link = (link.first.0, link.second.0)

-- the pairs of the links that were not taken out
abbrev pub pairs_in : List (Option Link) → List (ℕ × ℕ)
pairs_in links = filter_map (option_map pair_of) links

-- where a link leads to: a cell, and its event
abbrev pub out_of : Link → ℕ × ℕ
out_of link = (link.to, link.second.0)

-- where the links lead to that follow one another from an index on, each with a smaller index than the one before
-- it; the links stand with the newest first
abbrev pub chain_in : List (Option Link) → Option ℕ → List (ℕ × ℕ)
chain_in [] start = []
chain_in (None ∷ older) start = chain_in older start
chain_in (Some link ∷ older) None = []
chain_in (Some link ∷ older) (Some at) =
    if at == length older then out_of link ∷ chain_in older link.next else chain_in older (Some at)

abbrev pub chain : List (Option Link) → Option ℕ → List (ℕ × ℕ)
chain links start = chain_in (reverse links) start

-- the index of the newest link of the event; the links stand with the newest first
abbrev pub newest_in : List (Option Link) → ℕ → Option ℕ
newest_in [] event = None
newest_in (None ∷ older) event = newest_in older event
newest_in (Some link ∷ older) event = if link.first.0 == event then Some (length older) else newest_in older event

abbrev pub newest_of : List (Option Link) → ℕ → Option ℕ
newest_of links event = newest_in (reverse links) event

-- each link leads on to the next older one of its first event; the links stand with the newest first
abbrev pub AreChainedIn : List (Option Link) → Type 0
AreChainedIn [] = Unit {0}
AreChainedIn (None ∷ older) = AreChainedIn older
AreChainedIn (Some link ∷ older) = (link.next ≡ newest_in older link.first.0) × AreChainedIn older

abbrev pub AreChained : List (Option Link) → Type 0
AreChained links = AreChainedIn (reverse links)

-- the index is below a number, if there is one
abbrev pub IsBelow : ℕ → Option ℕ → Type 0
IsBelow n index = IfSome index (λ i. i < n)

-- the event of a cell, if there is one
abbrev pub slot_of : Option Cell → Option ℕ
slot_of slot = option_map (λ cell. cell.event.0) slot

-- the event that each cell holds
abbrev pub slots_of : Slab Cell → List (Option ℕ)
slots_of cells = map slot_of cells.slots

-- the link's cells are those of its events
pub record IsBetween (cells : Slab Cell) (link : Link) : Type 0 where
  pub from : event_at (slots_of cells) link.from ≡ Some link.first.0
  pub to : event_at (slots_of cells) link.to ≡ Some link.second.0

-- so it is, if there is a link
abbrev pub JoinsCells : Slab Cell → Option Link → Type 0
JoinsCells cells None = Unit {0}
JoinsCells cells (Some link) = IsBetween cells link

-- the links lead on and join cells, and each cell has the newest link of its event and the count of its predecessors
pub record AreLinked (cells : Slab Cell) (links : List (Option Link)) : Type 0 where
  pub one_cell : (c d event : ℕ) → event_at (slots_of cells) c ≡ Some event → event_at (slots_of cells) d ≡ Some event → c ≡ d
  pub chained : AreChained links
  pub leads : All (JoinsCells cells) links
  pub newest : (key : ℕ) (cell : Cell) → get cells key ≡ Some cell → cell.newest ≡ newest_of links cell.event.0
  pub ins : (key : ℕ) (cell : Cell) → get cells key ≡ Some cell → cell.in_count ≡ ins_of (pairs_in links) cell.event.0

-- the events with the keys of their cells, the cells, the links and the bare events of a graph
pub record IsSound (keys : List (ℕ × ℕ)) (cells : Slab Cell) (links : List (Option Link)) (bares : List ℕ) : Type 0 where
  pub joined : All (JoinsHeld (map (λ entry. entry.0) keys)) (pairs_in links)
  pub distinct : AllPairs (λ p q. p ≡ q → ⊥) (pairs_in links)
  pub acyclic : IsAcyclic (pairs_in links)
  pub bare : All (λ event. is_held (map (λ entry. entry.0) keys) event ≡ true) bares
  pub linked : AreLinked cells links
  pub placed : (event key : ℕ) → number_of keys event ≡ Some key → event_at (slots_of cells) key ≡ Some event
  pub listed : (event key : ℕ) → event_at (slots_of cells) key ≡ Some event → number_of keys event ≡ Some key

-- the count of pairs is right, and each pair may make one more event bare without memory
pub record HasRoom (links : List (Option Link)) (bare : List ℕ) (count bare_capacity : ℕ) : Type 0 where
  pub counted : count ≡ length (pairs_in links)
  pub room : count + length bare ≤ bare_capacity

-- the pair from the event to the second was taken out: it was the newest of the event
pub record IsTakenOut (event second : ℕ) (old new : List (ℕ × ℕ)) : Type 0 where
  pub front : List (ℕ × ℕ)
  pub back : List (ℕ × ℕ)
  pub was : old ≡ front ++ (event, second) ∷ back
  pub is : new ≡ front ++ back
  pub outs : outs_of old event ≡ second ∷ outs_of new event

-- the newest pair of the event was taken out, and its second made bare if it has no predecessor left
pub record IsDropped (event : ℕ) (old_pairs pairs : List (ℕ × ℕ)) (old_bare bared : List ℕ) : Type 0 where
  pub second : ℕ
  pub outs : outs_of old_pairs event ≡ second ∷ outs_of pairs event
  pub others : pairs_without pairs event ≡ pairs_without old_pairs event
  pub ins : ins_of pairs event ≡ ins_of old_pairs event
  pub gone : has_pair pairs event second ≡ false
  pub bare : bared ≡ old_bare ++ (if ins_of pairs second == 0 then second ∷ [] else [])
  pub fewer : length pairs + 1 ≡ length old_pairs
