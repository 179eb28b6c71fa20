-- The laws of the order that a history gives.
use Rattle.std.proofs.Common.{◌≡◌, ℕ, Bool, true, false, cond, eqb, List, [], ◌∷◌, ◌++◌, refl, sym, ap, ◌∙◌, subst}
use Rattle.std.specs.Prelude.{fold, Option, None, Some, is_none}
use Rattle.std.proofs.lemmas.Bool.{and_parts}
use Rattle.std.proofs.lemmas.List.Sums.{fold-append}
use Rattle.kr_order.specs.declared.answer.Answer.TheVariants.{Before, After, Same, Concurrent, Unknown}
use Rattle.kr_order.specs.declared.history.Command.{Command}
use Rattle.kr_order.specs.declared.history.Command.TheVariants.{Create, Assign, Acquire, Release}
use Rattle.kr_order.specs.declared.history.Entry.{Entry}
use Rattle.kr_order.specs.Prefix.{IsPrefix}
use Rattle.kr_order.specs.Order.{reach, IsAcyclic}
use Rattle.kr_order.specs.Batch.{contradicts, pairs_with}
use Rattle.kr_order.specs.Agreed.{Agreed, nothing_agreed, both_live, first_unknown, accepts, pairs_after, after, agreed_of}
use Rattle.kr_order.specs.Pairs.{pairs_of}
use Rattle.kr_order.specs.Answer.{answer_to}
use Rattle.kr_order.specs.Laws.{TheOrderOnlyGrows, TheOrderStaysAcyclic, ABeforeIsNeverWithdrawn}
use Rattle.kr_order.proofs.PrefixLemmas.{IsPrefix-refl, IsPrefix-trans}
use Rattle.kr_order.proofs.OrderLemmas.{IsAcyclic-nil, reach_more, never_back}
use Rattle.kr_order.proofs.BatchLemmas.{IsPrefix-pairs_with, IsAcyclic-pairs_with}
use Rattle.kr_order.proofs.HistoryLemmas.{agreed_of-push, agreed_keeps}

-- the order after one more entry
pub pairs_of-push : (history : List Entry) (entry : Entry) → pairs_of (history ++ entry ∷ []) ≡ pairs_after entry.command (agreed_of history)
pairs_of-push history entry = ap (λ (agreed : Agreed). agreed.pairs) (agreed_of-push history entry)

-- a command only adds to the order
pub IsPrefix-pairs_after : (command : Command) (agreed : Agreed) → IsPrefix agreed.pairs (pairs_after command agreed)
IsPrefix-pairs_after Create agreed = IsPrefix-refl agreed.pairs
IsPrefix-pairs_after (Assign batch) agreed =
    elim (accepts agreed batch) as (λ taken. IsPrefix agreed.pairs (cond taken (pairs_with agreed.pairs batch) agreed.pairs)) [ true ↦ IsPrefix-pairs_with agreed.pairs batch | false ↦ IsPrefix-refl agreed.pairs ]
IsPrefix-pairs_after (Acquire event) agreed = IsPrefix-refl agreed.pairs
IsPrefix-pairs_after (Release event) agreed = IsPrefix-refl agreed.pairs

front_from : (agreed : Agreed) (more : List Entry) → IsPrefix agreed.pairs (fold after agreed more).pairs
front_from agreed [] = IsPrefix-refl agreed.pairs
front_from agreed (entry ∷ more) =
    IsPrefix-trans agreed.pairs (after agreed entry).pairs (fold after (after agreed entry) more).pairs (IsPrefix-pairs_after entry.command agreed) (front_from (after agreed entry) more)

-- the pairs of a history are the first of those of a longer one
pub IsPrefix-pairs_of : (history longer : List Entry) → IsPrefix history longer → IsPrefix (pairs_of history) (pairs_of longer)
IsPrefix-pairs_of history longer front =
    let grown : agreed_of longer ≡ fold after (agreed_of history) front.more = ap agreed_of front.is ∙ fold-append after nothing_agreed history front.more in
    subst (λ (agreed : Agreed). IsPrefix (pairs_of history) agreed.pairs) (sym grown) (front_from (agreed_of history) front.more)

pub order_grows : TheOrderOnlyGrows
order_grows history longer front =
    let pairs = IsPrefix-pairs_of history longer front in
    record { pairs = pairs; before = λ a b. reach_more (pairs_of history) (pairs_of longer) a b pairs }

pub none_by_test : (found : Option ℕ) → is_none found ≡ true → found ≡ None
none_by_test None is = refl
none_by_test (Some i) is = cc

-- a command closes no cycle
pub IsAcyclic-pairs_after : (command : Command) (agreed : Agreed) → IsAcyclic agreed.pairs → IsAcyclic (pairs_after command agreed)
IsAcyclic-pairs_after Create agreed acyclic = acyclic
IsAcyclic-pairs_after (Acquire event) agreed acyclic = acyclic
IsAcyclic-pairs_after (Release event) agreed acyclic = acyclic
IsAcyclic-pairs_after (Assign batch) agreed acyclic = by_test (accepts agreed batch) refl
  where
    by_test : (taken : Bool) → accepts agreed batch ≡ taken → IsAcyclic (cond taken (pairs_with agreed.pairs batch) agreed.pairs)
    by_test true is =
        let none = none_by_test (contradicts agreed.pairs batch) (and_parts (is_none (first_unknown agreed batch)) (is_none (contradicts agreed.pairs batch)) is).1 in
        IsAcyclic-pairs_with agreed.pairs batch none acyclic
    by_test false is = acyclic

pub order_acyclic : TheOrderStaysAcyclic
order_acyclic = agreed_keeps (λ agreed. IsAcyclic agreed.pairs) IsAcyclic-nil (λ agreed entry acyclic. IsAcyclic-pairs_after entry.command agreed acyclic)

only_before : (live same ab ba : Bool) → cond live (cond same Same (cond ab Before (cond ba After Concurrent))) Unknown ≡ Before → ab ≡ true
only_before true true ab ba is = cc
only_before true false true ba is = refl
only_before true false false true is = cc
only_before true false false false is = cc
only_before false same ab ba is = cc

only_after : (live same ab ba : Bool) → cond live (cond same Same (cond ab Before (cond ba After Concurrent))) Unknown ≡ After → ba ≡ true
only_after true true ab ba is = cc
only_after true false true ba is = cc
only_after true false false true is = refl
only_after true false false false is = cc
only_after false same ab ba is = cc

-- an answer before is said of the order
pub answer_to-before : (history : List Entry) (a b : ℕ) → answer_to history a b ≡ Before → reach (pairs_of history) a b ≡ true
answer_to-before history a b is = only_before (both_live (agreed_of history) a b) (eqb a b) (reach (pairs_of history) a b) (reach (pairs_of history) b a) is

-- so is an answer after
pub answer_to-after : (history : List Entry) (a b : ℕ) → answer_to history a b ≡ After → reach (pairs_of history) b a ≡ true
answer_to-after history a b is = only_after (both_live (agreed_of history) a b) (eqb a b) (reach (pairs_of history) a b) (reach (pairs_of history) b a) is

pub before_stays : ABeforeIsNeverWithdrawn
before_stays history longer a b is front =
    let path = (order_grows history longer front).before a b (answer_to-before history a b is) in
    record { before = path; never_back = never_back (pairs_of longer) a b (order_acyclic longer) path }
