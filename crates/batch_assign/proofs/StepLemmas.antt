-- What a plan costs: two searches for each pair of its batch.
use Rattle.std.proofs.Common.{◌≡◌, ℕ, ◌+◌, ◌*◌, ◌<◌, ◌≤◌, Bool, true, false, cond, List, [], ◌∷◌, length, take, get_or, refl, ap, sym, ◌∙◌, arith}
use Rattle.std.specs.Prelude.{sum_by}
use Rattle.std.proofs.lemmas.Nat.{mul-le}
use Rattle.std.proofs.lemmas.List.Sums.{sum_by-cons, sum_by_more, sum_by-take-le}
use Rattle.kr_order.specs.declared.batch.Pair.{Pair}
use Rattle.kr_order.specs.Batch.{is_must}
use Rattle.dep_graph.specs.GraphView.{GraphView}
use Rattle.batch_assign.specs.Plan.{search_most, twice_each, plan_most, must_one, prefer_one, musts_in, prefers_in}

-- a search through more pairs costs no less
pub search_most-le : (graph : GraphView) (m n : ℕ) → m ≤ n → search_most graph m ≤ search_most graph n
search_most-le graph m n le =
    omega (arith, mul-le (length graph.vertices) (1 + m) (length graph.vertices) (1 + n) (omega arith) (omega arith))

-- more searches cost no less
twice_each-le : (m n small big : ℕ) → m ≤ n → small ≤ big → twice_each m small ≤ twice_each n big
twice_each-le m n small big le less = omega (arith, mul-le m small n big le less)

-- some pairs and then more
twice_each-add : (m n big : ℕ) → twice_each (m + n) big ≡ twice_each m big + twice_each n big
twice_each-add m n big = omega arith

-- what the first pairs of a batch have come to, where each adds at most so many pairs: the pairs that were added, and
-- the steps
pub record IsSpent (graph : GraphView) (most : Pair → ℕ) (batch : List Pair) (n had adds start steps : ℕ) : Type 0 where
  pub few : adds ≤ had + sum_by most (take n batch)
  pub least : start ≤ steps
  pub within : steps ≤ start + twice_each (sum_by most (take n batch)) (search_most graph (had + sum_by most batch))

-- one pair more
pub IsSpent-more :
    (graph : GraphView) (most : Pair → ℕ) (batch : List Pair) (n had adds start steps adds' steps' : ℕ) (d : Pair) →
    IsSpent graph most batch n had adds start steps → n < length batch → adds' ≤ adds + most (get_or batch n d) →
    steps ≤ steps' → steps' ≤ steps + twice_each (most (get_or batch n d)) (search_most graph adds) →
    IsSpent graph most batch (n + 1) had adds' start steps'
IsSpent-more graph most batch n had adds start steps adds' steps' d spent below few least within =
    let so_far = spent.few in
    let this = most (get_or batch n d) in
    let done = sum_by most (take n batch) in
    let big = search_most graph (had + sum_by most batch) in
    let more : sum_by most (take (n + 1) batch) ≡ done + this = sum_by_more most batch n d below in
    let all : done ≤ sum_by most batch = sum_by-take-le most batch n in
    let less : search_most graph adds ≤ big = search_most-le graph adds (had + sum_by most batch) (omega (arith, so_far, all)) in
    let one = twice_each-le this this (search_most graph adds) big (omega arith) less in
    let sum : twice_each (done + this) big ≡ twice_each done big + twice_each this big = twice_each-add done this big in
    let total : twice_each (sum_by most (take (n + 1) batch)) big ≡ twice_each (done + this) big = ap (λ k. twice_each k big) more in
    record {
      few = omega (arith, so_far, few, more);
      least = omega (arith, spent.least, least);
      within = omega (arith, spent.within, within, one, sum, total);
    }

-- it is within what all pairs may come to
pub IsSpent-few : (graph : GraphView) (most : Pair → ℕ) (batch : List Pair) (n had adds start steps : ℕ) →
    IsSpent graph most batch n had adds start steps → adds ≤ had + sum_by most batch
IsSpent-few graph most batch n had adds start steps spent = omega (arith, spent.few, sum_by-take-le most batch n)

pub IsSpent-within : (graph : GraphView) (most : Pair → ℕ) (batch : List Pair) (n had adds start steps : ℕ) →
    IsSpent graph most batch n had adds start steps →
    steps ≤ start + twice_each (sum_by most batch) (search_most graph (had + sum_by most batch))
IsSpent-within graph most batch n had adds start steps spent =
    let big = search_most graph (had + sum_by most batch) in
    omega (arith, spent.within, twice_each-le (sum_by most (take n batch)) (sum_by most batch) big big (sum_by-take-le most batch n) (omega arith))

-- each pair is a must or a prefer
pub musts_and_prefers : (batch : List Pair) → musts_in batch + prefers_in batch ≡ length batch
musts_and_prefers [] = refl
musts_and_prefers (pair ∷ more) =
    omega (arith, sum_by-cons must_one pair more, sum_by-cons prefer_one pair more, musts_and_prefers more, one (is_must pair.kind))
  where
    one : (must : Bool) → cond must 1 0 + cond must 0 1 ≡ 1
    one true = refl
    one false = refl

-- two sums that make one
both-within : (start before behind m p all first second big : ℕ) → m + p ≡ all → first ≤ big → second ≤ big →
    before ≤ start + twice_each m first → behind ≤ before + twice_each p second → behind ≤ start + twice_each all big
both-within start before behind m p all first second big sum one two musts prefers =
    let whole : all * big ≡ m * big + p * big = ap (λ k. k * big) (sym sum) ∙ omega arith in
    omega (arith, whole, mul-le m first m big (omega arith) one, mul-le p second p big (omega arith) two)

-- what a pass over the batch has added, and its steps, where it began with so many pairs
pub record IsPassed (graph : GraphView) (pairs had adds start steps : ℕ) : Type 0 where
  pub few : adds ≤ had + pairs
  pub within : steps ≤ start + twice_each pairs (search_most graph (had + pairs))

-- the steps of the musts are within those of a plan
pub musts-within : (graph : GraphView) (batch : List Pair) (had adds start steps : ℕ) → had ≡ 0 →
    IsPassed graph (musts_in batch) had adds start steps → steps ≤ start + plan_most graph (length batch)
musts-within graph batch had adds start steps none musts =
    let parts = musts_and_prefers batch in
    let less = search_most-le graph (had + musts_in batch) (length batch) (omega arith) in
    omega (arith, musts.within, twice_each-le (musts_in batch) (length batch) (search_most graph (had + musts_in batch)) (search_most graph (length batch)) (omega arith) less)

-- so are those of the musts and then of the prefers
pub plan-within : (graph : GraphView) (batch : List Pair) (had adds adds' start steps steps' : ℕ) → had ≡ 0 →
    IsPassed graph (musts_in batch) had adds start steps → IsPassed graph (prefers_in batch) adds adds' steps steps' →
    steps' ≤ start + plan_most graph (length batch)
plan-within graph batch had adds adds' start steps steps' none musts prefers =
    let parts = musts_and_prefers batch in
    let few = musts.few in
    let first = search_most-le graph (had + musts_in batch) (length batch) (omega arith) in
    let second = search_most-le graph (adds + prefers_in batch) (length batch) (omega arith) in
    both-within start steps steps' (musts_in batch) (prefers_in batch) (length batch) (search_most graph (had + musts_in batch)) (search_most graph (adds + prefers_in batch)) (search_most graph (length batch)) parts first second musts.within prefers.within
