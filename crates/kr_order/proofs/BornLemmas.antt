-- The order has only pairs of events that were made.
use Rattle.std.proofs.Common.{◌≡◌, ℕ, ◌+◌, ◌<◌, Bool, true, false, cond, not, ◌||◌, List, [], ◌∷◌, ◌++◌, refl, sym, ◌∙◌, subst, arith}
use Rattle.std.specs.Prelude.{fold, All, None, Some, is_none}
use Rattle.std.specs.List.{AllByRecursion, position_from}
use Rattle.std.proofs.lemmas.Bool.{and_parts, ltb-true, not-false}
use Rattle.std.proofs.lemmas.List.Elements.{All-from_recursion}
use Rattle.std.proofs.lemmas.Iterator.Adapters.{position_from-zero}
use Rattle.kr_order.specs.declared.batch.Pair.{Pair}
use Rattle.kr_order.specs.declared.history.Command.{Command}
use Rattle.kr_order.specs.declared.history.Command.TheVariants.{Create, Assign, Acquire, Release}
use Rattle.kr_order.specs.declared.history.Entry.{Entry}
use Rattle.kr_order.specs.History.{births_of, born_in}
use Rattle.kr_order.specs.Order.{reach}
use Rattle.kr_order.specs.Batch.{is_must, forbids, with_pair, with_must, with_prefer, musts_from, pairs_with, contradicts}
use Rattle.kr_order.specs.Agreed.{Agreed, is_live, both_live, first_unknown, accepts, pairs_after, agreed_of}
use Rattle.kr_order.specs.Pairs.{pairs_of}
use Rattle.kr_order.proofs.HistoryLemmas.{IsUpTo, agreed_keeps, born-agreed, count_after-live}
use Rattle.kr_order.proofs.PairsLemmas.{none_by_test}

-- both events of the pair are among the events made
pub record IsBornPair (born : ℕ) (pair : ℕ × ℕ) : Type 0 where
  pub first : IsUpTo pair.0 born
  pub second : IsUpTo pair.1 born

-- all pairs of the order are of events made
abbrev pub IsBornOrder : ℕ → List (ℕ × ℕ) → Type 0
IsBornOrder born order = AllByRecursion (IsBornPair born) order

-- the pair of a batch is of events made
abbrev IsBorn : ℕ → Pair → Type 0
IsBorn born pair = IsBornPair born (pair.first.0, pair.second.0)

IsBornOrder-push : (born : ℕ) (order : List (ℕ × ℕ)) (pair : ℕ × ℕ) → IsBornOrder born order → IsBornPair born pair → IsBornOrder born (order ++ pair ∷ [])
IsBornOrder-push born [] pair all one = (one, tt)
IsBornOrder-push born (old ∷ order) pair all one = (all.0, IsBornOrder-push born order pair all.1 one)

-- pairs of events made are so of more events
IsBornOrder-more : (born more : ℕ) (order : List (ℕ × ℕ)) → IsBornOrder born order → IsBornOrder (more + born) order
IsBornOrder-more born more [] all = tt
IsBornOrder-more born more (pair ∷ order) all =
    let one = all.0 in
    (record { first = (one.first.0, omega arith); second = (one.second.0, omega arith) }, IsBornOrder-more born more order all.1)

with_pair-born : (born : ℕ) (order : List (ℕ × ℕ)) (pair : Pair) → IsBornOrder born order → IsBorn born pair → IsBornOrder born (with_pair order pair)
with_pair-born born order pair all one =
    elim (reach order pair.first.0 pair.second.0) as (λ said. IsBornOrder born (cond said order (order ++ (pair.first.0, pair.second.0) ∷ []))) [ true ↦ all | false ↦ IsBornOrder-push born order (pair.first.0, pair.second.0) all one ]

with_must-born : (born : ℕ) (order : List (ℕ × ℕ)) (pair : Pair) → IsBornOrder born order → IsBorn born pair → IsBornOrder born (with_must order pair)
with_must-born born order pair all one =
    elim (is_must pair.kind) as (λ must. IsBornOrder born (cond must (with_pair order pair) order)) [ true ↦ with_pair-born born order pair all one | false ↦ all ]

with_prefer-born : (born : ℕ) (order : List (ℕ × ℕ)) (pair : Pair) → IsBornOrder born order → IsBorn born pair → IsBornOrder born (with_prefer order pair)
with_prefer-born born order pair all one =
    elim (is_must pair.kind || forbids order pair) as (λ out. IsBornOrder born (cond out order (with_pair order pair))) [ true ↦ all | false ↦ with_pair-born born order pair all one ]

IsBornOrder-fold : (born : ℕ) (f : List (ℕ × ℕ) → Pair → List (ℕ × ℕ)) → ((order : List (ℕ × ℕ)) (pair : Pair) → IsBornOrder born order → IsBorn born pair → IsBornOrder born (f order pair)) → (order : List (ℕ × ℕ)) (batch : List Pair) → IsBornOrder born order → AllByRecursion (IsBorn born) batch → IsBornOrder born (fold f order batch)
IsBornOrder-fold born f each order [] all batch_all = all
IsBornOrder-fold born f each order (pair ∷ more) all batch_all = IsBornOrder-fold born f each (f order pair) more (each order pair all batch_all.0) batch_all.1

pairs_with-born : (born : ℕ) (order : List (ℕ × ℕ)) (batch : List Pair) → IsBornOrder born order → AllByRecursion (IsBorn born) batch → IsBornOrder born (pairs_with order batch)
pairs_with-born born order batch all batch_all =
    IsBornOrder-fold born with_prefer (with_prefer-born born) (musts_from order batch) batch (IsBornOrder-fold born with_must (with_must-born born) order batch all batch_all) batch_all

-- where no item passes the test, each fails it
pub no_position : {X : Type 0} (test : X → Bool) (i : ℕ) (xs : List X) → position_from test i xs ≡ None → AllByRecursion (λ x. test x ≡ false) xs
no_position test i [] none = tt
no_position test i (x ∷ xs) none = by_test (test x) refl none (no_position test (i + 1) xs)
  where
    by_test : (passes : Bool) → test x ≡ passes → cond passes (Some i) (position_from test (i + 1) xs) ≡ None → (position_from test (i + 1) xs ≡ None → AllByRecursion (λ y. test y ≡ false) xs) → (test x ≡ false) × AllByRecursion (λ y. test y ≡ false) xs
    by_test true is none on = cc
    by_test false is none on = (is, on none)

-- events that are live were made, and the order is of such
pub record IsOverBorn (agreed : Agreed) : Type 0 where
  pub live : (event : ℕ) → 0 < agreed.count event → IsUpTo event agreed.born
  pub pairs : IsBornOrder agreed.born agreed.pairs

live_pair : (agreed : Agreed) (pair : Pair) → IsOverBorn agreed → not (both_live agreed pair.first.0 pair.second.0) ≡ false → IsBorn agreed.born pair
live_pair agreed pair over known =
    let both = and_parts (is_live agreed pair.first.0) (is_live agreed pair.second.0) (not-false (both_live agreed pair.first.0 pair.second.0) known) in
    record { first = over.live pair.first.0 (ltb-true 0 (agreed.count pair.first.0) both.0); second = over.live pair.second.0 (ltb-true 0 (agreed.count pair.second.0) both.1) }

live_pairs : (agreed : Agreed) (batch : List Pair) → IsOverBorn agreed → AllByRecursion (λ pair. not (both_live agreed pair.first.0 pair.second.0) ≡ false) batch → AllByRecursion (IsBorn agreed.born) batch
live_pairs agreed [] over all = tt
live_pairs agreed (pair ∷ more) over all = (live_pair agreed pair over all.0, live_pairs agreed more over all.1)

pub known_batch : (agreed : Agreed) (batch : List Pair) → IsOverBorn agreed → first_unknown agreed batch ≡ None → AllByRecursion (IsBorn agreed.born) batch
known_batch agreed batch over none =
    let test : Pair → Bool = λ pair. not (both_live agreed pair.first.0 pair.second.0) in
    live_pairs agreed batch over (no_position test 0 batch (sym (position_from-zero test batch) ∙ none))

pairs_after-born : (command : Command) (agreed : Agreed) → IsOverBorn agreed → IsBornOrder (births_of command + agreed.born) (pairs_after command agreed)
pairs_after-born Create agreed over = IsBornOrder-more agreed.born 1 agreed.pairs over.pairs
pairs_after-born (Acquire event) agreed over = IsBornOrder-more agreed.born 0 agreed.pairs over.pairs
pairs_after-born (Release event) agreed over = IsBornOrder-more agreed.born 0 agreed.pairs over.pairs
pairs_after-born (Assign batch) agreed over = IsBornOrder-more agreed.born 0 (pairs_after (Assign batch) agreed) (by_test (accepts agreed batch) refl)
  where
    by_test : (taken : Bool) → accepts agreed batch ≡ taken → IsBornOrder agreed.born (cond taken (pairs_with agreed.pairs batch) agreed.pairs)
    by_test true is =
        let none = none_by_test (first_unknown agreed batch) (and_parts (is_none (first_unknown agreed batch)) (is_none (contradicts agreed.pairs batch)) is).0 in
        pairs_with-born agreed.born agreed.pairs batch over.pairs (known_batch agreed batch over none)
    by_test false is = over.pairs

pub over_born : (history : List Entry) → IsOverBorn (agreed_of history)
over_born = agreed_keeps IsOverBorn (record { live = λ event some. absurd (omega arith); pairs = tt }) (λ agreed entry over. record { live = λ event. count_after-live entry.command agreed.born event (agreed.count event) (over.live event); pairs = pairs_after-born entry.command agreed over })
