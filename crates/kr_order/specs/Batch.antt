-- What a batch does to an order: first its musts are added, in list order, and then its prefers, in list order.
use Rattle.std.specs.Prelude.{◌≡◌, ℕ, ◌+◌, Bool, true, false, ◌&&◌, ◌||◌, ◌==◌, if◌then◌else◌, Option, None, Some, List, [], ◌∷◌, fold}
use Rattle.kr_order.specs.declared.batch.Kind.{Kind}
use Rattle.kr_order.specs.declared.batch.Kind.TheVariants.{Must, Prefer}
use Rattle.kr_order.specs.declared.batch.Pair.{Pair}
use Rattle.kr_order.specs.declared.batch.Outcome.{Outcome}
use Rattle.kr_order.specs.declared.batch.Outcome.TheVariants.{Kept, Reversed, Same}
use Rattle.kr_order.specs.Order.{reach, add}

-- the pair has to hold
abbrev pub is_must : Kind → Bool
is_must Must = true
is_must Prefer = false

-- the order forbids the pair: its events are one, or its second is before its first
abbrev pub forbids : List (ℕ × ℕ) → Pair → Bool
forbids order pair = pair.first.0 == pair.second.0 || reach order pair.second.0 pair.first.0

-- the order with the pair
abbrev pub with_pair : List (ℕ × ℕ) → Pair → List (ℕ × ℕ)
with_pair order pair = add order pair.first.0 pair.second.0

-- the order with the pair if it is a must
abbrev pub with_must : List (ℕ × ℕ) → Pair → List (ℕ × ℕ)
with_must order pair = if is_must pair.kind then with_pair order pair else order

-- the order with the pair if it is a prefer that the order doesn't forbid
abbrev pub with_prefer : List (ℕ × ℕ) → Pair → List (ℕ × ℕ)
with_prefer order pair = if is_must pair.kind || forbids order pair then order else with_pair order pair

-- the order with all musts of the batch
abbrev pub musts_from : List (ℕ × ℕ) → List Pair → List (ℕ × ℕ)
musts_from order batch = fold with_must order batch

-- the order with the prefers of the batch that may be added, each to the order with the prefers before it
abbrev pub prefers_from : List (ℕ × ℕ) → List Pair → List (ℕ × ℕ)
prefers_from order batch = fold with_prefer order batch

-- the index of the first must that is forbidden by the order with the musts before it, where the first pair of the
-- list has the index i
abbrev pub contradicts_from : ℕ → List (ℕ × ℕ) → List Pair → Option ℕ
contradicts_from i order [] = None
contradicts_from i order (pair ∷ more) =
    if is_must pair.kind && forbids order pair then Some i else contradicts_from (i + 1) (with_must order pair) more

-- the index in the whole batch of the first must that contradicts, from 0
abbrev pub contradicts : List (ℕ × ℕ) → List Pair → Option ℕ
contradicts order batch = contradicts_from 0 order batch

-- the order that the batch makes of an order, where no must contradicts
abbrev pub pairs_with : List (ℕ × ℕ) → List Pair → List (ℕ × ℕ)
pairs_with order batch = prefers_from (musts_from order batch) batch

-- what becomes of a prefer: one of an event beside itself says nothing, and one that the order has the other way
-- round is reversed
abbrev pub prefer_outcome : List (ℕ × ℕ) → Pair → Outcome
prefer_outcome order pair =
    if pair.first.0 == pair.second.0 then Same else (if reach order pair.second.0 pair.first.0 then Reversed else Kept)

-- what becomes of a pair; each must is kept
abbrev pub outcome_of : List (ℕ × ℕ) → Pair → Outcome
outcome_of order pair = if is_must pair.kind then Kept else prefer_outcome order pair

-- what becomes of each pair over an order with all the musts
abbrev pub outcomes_from : List (ℕ × ℕ) → List Pair → List Outcome
outcomes_from order [] = []
outcomes_from order (pair ∷ more) = outcome_of order pair ∷ outcomes_from (with_prefer order pair) more

-- what becomes of each pair of the batch, in the order of the batch
abbrev pub outcomes_of : List (ℕ × ℕ) → List Pair → List Outcome
outcomes_of order batch = outcomes_from (musts_from order batch) batch

-- what an outcome says of the order
abbrev pub IsTrueOf : List (ℕ × ℕ) → Pair → Outcome → Type 0
IsTrueOf order pair Kept = reach order pair.first.0 pair.second.0 ≡ true
IsTrueOf order pair Reversed = reach order pair.second.0 pair.first.0 ≡ true
IsTrueOf order pair Same = pair.first.0 ≡ pair.second.0
