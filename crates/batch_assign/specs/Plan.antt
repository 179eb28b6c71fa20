-- What a batch is to do, before it is done: the pairs that it adds to the order, and what becomes of each of its own.
use Rattle.std.specs.Prelude.{◌≡◌, ◌+◌, ◌*◌, ◌++◌, ◌<◌, ℕ, true, None, Some, List, [], length, sum_by, if◌then◌else◌}
use Rattle.std.specs.List.{All}
use Rattle.kr_order.specs.declared.ids.EventId.{EventId}
use Rattle.kr_order.specs.declared.batch.Pair.{Pair}
use Rattle.kr_order.specs.Batch.{is_must, contradicts, pairs_with, outcomes_of}
use Rattle.kr_order.specs.Agreed.{Agreed, first_unknown}
use Rattle.dep_graph.specs.GraphView.{GraphView, is_held, CanAddAll}
use Rattle.reach.specs.Search.{numbered, AreHeld}
use Rattle.ref_collect.specs.Counts.{count_of}
use Rattle.batch_assign.specs.declared.adds.Plan.{Plan}
use Rattle.batch_assign.specs.declared.adds.BatchStop.{BatchStop}
use Rattle.batch_assign.specs.declared.adds.BatchStop.TheVariants as stop

-- what is agreed on where nothing but the references is
abbrev pub counted : List (ℕ × ℕ) → Agreed
counted counts = record { born = 0; count = count_of counts; pairs = [] }

-- each live event is held
abbrev pub LiveAreHeld : List (ℕ × ℕ) → List ℕ → Type 0
LiveAreHeld counts vertices = (event : ℕ) → 0 < count_of counts event → is_held vertices event ≡ true

-- both events of the pair of a batch are held
pub record IsPairHeld (vertices : List ℕ) (pair : Pair) : Type 0 where
  pub first : is_held vertices pair.first.0 ≡ true
  pub second : is_held vertices pair.second.0 ≡ true

-- so are those of all its pairs
abbrev pub IsBatchHeld : List ℕ → List Pair → Type 0
IsBatchHeld vertices batch = All (IsPairHeld vertices) batch

-- the order with the pairs that are to be added
abbrev pub order_with : GraphView → List (EventId × EventId) → List (ℕ × ℕ)
order_with graph adds = graph.pairs ++ numbered adds

-- the pairs join held events, and can be added to the graph one after the other
pub record CanBeAdded (graph : GraphView) (adds : List (EventId × EventId)) : Type 0 where
  pub held : All (AreHeld graph.vertices) adds
  pub fits : CanAddAll graph.vertices graph.pairs (numbered adds)

-- the plan of a batch whose events all are held
pub record IsChecked (graph : GraphView) (batch : List Pair) (plan : Plan) : Type 0 where
  pub agreeing : contradicts graph.pairs batch ≡ None
  pub adds : order_with graph plan.adds ≡ pairs_with graph.pairs batch
  pub outcomes : plan.outcomes ≡ outcomes_of graph.pairs batch
  pub can : CanBeAdded graph plan.adds

-- why such a batch has no plan
abbrev pub IsRefused : GraphView → List Pair → BatchStop → Type 0
IsRefused graph batch (stop.Unknown i) = ⊥
IsRefused graph batch (stop.Contradicts i) = contradicts graph.pairs batch ≡ Some i
IsRefused graph batch stop.NoMemory = Unit {0}

-- the plan of a batch
pub record IsPlan (counts : List (ℕ × ℕ)) (graph : GraphView) (batch : List Pair) (plan : Plan) : Type 0 where
  pub known : first_unknown (counted counts) batch ≡ None
  pub checked : IsChecked graph batch plan

-- the first must of a batch of live events that contradicts
pub record IsOpposed (counts : List (ℕ × ℕ)) (graph : GraphView) (batch : List Pair) (i : ℕ) : Type 0 where
  pub known : first_unknown (counted counts) batch ≡ None
  pub opposed : contradicts graph.pairs batch ≡ Some i

-- why a batch has no plan
abbrev pub IsStop : List (ℕ × ℕ) → GraphView → List Pair → BatchStop → Type 0
IsStop counts graph batch (stop.Unknown i) = first_unknown (counted counts) batch ≡ Some i
IsStop counts graph batch (stop.Contradicts i) = IsOpposed counts graph batch i
IsStop counts graph batch stop.NoMemory = Unit {0}

-- the most steps of a search through the graph and so many pairs more: an event is taken up, or a pair looked at
abbrev pub search_most : GraphView → ℕ → ℕ
search_most graph more = length graph.vertices * (1 + more) + length graph.pairs

-- the most steps of so many searches, each twice
abbrev pub twice_each : ℕ → ℕ → ℕ
twice_each pairs most = 2 * (pairs * most)

-- the most steps of a plan of so many pairs: two searches for each of them, through at most as many pairs more
abbrev pub plan_most : GraphView → ℕ → ℕ
plan_most graph pairs = twice_each pairs (search_most graph pairs)

-- a must counts as one where musts are counted, and a prefer where prefers are
abbrev pub must_one : Pair → ℕ
must_one pair = if is_must pair.kind then 1 else 0

abbrev pub prefer_one : Pair → ℕ
prefer_one pair = if is_must pair.kind then 0 else 1

-- how many musts a batch has, and how many prefers
abbrev pub musts_in : List Pair → ℕ
musts_in batch = sum_by must_one batch

abbrev pub prefers_in : List Pair → ℕ
prefers_in batch = sum_by prefer_one batch
