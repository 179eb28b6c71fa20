-- What the reply to a batch says of the order.
use Rattle.std.proofs.Common.{◌≡◌, ◌⊎◌, ℕ, true, false, cond, List, [], ◌∷◌, ◌++◌, refl, sym, ap, ◌∙◌, subst, inl, inr}
use Rattle.std.specs.Prelude.{Option, None, Some, is_none, ◌&&◌}
use Rattle.std.specs.List.{AllZip}
use Rattle.kr_order.specs.declared.batch.Pair.{Pair}
use Rattle.kr_order.specs.declared.batch.Outcome.{Outcome}
use Rattle.kr_order.specs.declared.history.Command.{Command}
use Rattle.kr_order.specs.declared.history.Command.TheVariants.{Create, Assign, Acquire, Release}
use Rattle.kr_order.specs.declared.history.Entry.{Entry}
use Rattle.kr_order.specs.declared.history.Reply.TheVariants.{Assigned, Unknown, Contradicts}
use Rattle.kr_order.specs.Batch.{IsTrueOf, contradicts, pairs_with, outcomes_of}
use Rattle.kr_order.specs.Agreed.{Agreed, first_unknown, accepts, pairs_after, agreed_of}
use Rattle.kr_order.specs.Pairs.{pairs_of}
use Rattle.kr_order.specs.Reply.{checked_reply, known_reply, batch_reply, reply_to}
use Rattle.kr_order.specs.Laws.{OutcomesAreTrue, ARefusedBatchChangesNothing}
use Rattle.kr_order.proofs.BatchLemmas.{outcomes_of-true}
use Rattle.kr_order.proofs.PairsLemmas.{pairs_of-push}

-- a batch that is assigned is accepted, and is told its outcomes
pub assigned_parts : (agreed : Agreed) (batch : List Pair) (outcomes : List Outcome) → batch_reply agreed batch ≡ Assigned outcomes → (accepts agreed batch ≡ true) × (outcomes_of agreed.pairs batch ≡ outcomes)
assigned_parts agreed batch outcomes = by_cases (first_unknown agreed batch) (contradicts agreed.pairs batch)
  where
    by_cases : (unknown contradicted : Option ℕ) → known_reply unknown (checked_reply contradicted (outcomes_of agreed.pairs batch)) ≡ Assigned outcomes → ((is_none unknown && is_none contradicted) ≡ true) × (outcomes_of agreed.pairs batch ≡ outcomes)
    by_cases None None is = (refl, cc)
    by_cases None (Some i) is = cc
    by_cases (Some i) contradicted is = cc

-- a batch that is told an index is not accepted
pub refused_parts : (agreed : Agreed) (batch : List Pair) (i : ℕ) → (batch_reply agreed batch ≡ Unknown i) ⊎ (batch_reply agreed batch ≡ Contradicts i) → accepts agreed batch ≡ false
refused_parts agreed batch i = by_cases (first_unknown agreed batch) (contradicts agreed.pairs batch)
  where
    by_cases : (unknown contradicted : Option ℕ) → (known_reply unknown (checked_reply contradicted (outcomes_of agreed.pairs batch)) ≡ Unknown i) ⊎ (known_reply unknown (checked_reply contradicted (outcomes_of agreed.pairs batch)) ≡ Contradicts i) → (is_none unknown && is_none contradicted) ≡ false
    by_cases None None (inl is) = cc
    by_cases None None (inr is) = cc
    by_cases None (Some k) is = refl
    by_cases (Some k) contradicted is = refl

-- the order after a batch that is accepted
pub pairs_of-accepted : (history : List Entry) (entry : Entry) (batch : List Pair) → entry.command ≡ Assign batch → accepts (agreed_of history) batch ≡ true → pairs_of (history ++ entry ∷ []) ≡ pairs_with (pairs_of history) batch
pairs_of-accepted history entry batch is taken =
    pairs_of-push history entry ∙ ap (λ command. pairs_after command (agreed_of history)) is ∙ ap (λ b. cond b (pairs_with (pairs_of history) batch) (pairs_of history)) taken

pub outcomes_true : OutcomesAreTrue
outcomes_true history entry batch outcomes is told =
    let parts = assigned_parts (agreed_of history) batch outcomes (sym (ap (reply_to history) is) ∙ told) in
    let all = outcomes_of-true (pairs_of history) batch in
    let of_order = subst (λ pairs. AllZip (IsTrueOf pairs) batch (outcomes_of (pairs_of history) batch)) (sym (pairs_of-accepted history entry batch is parts.0)) all in
    subst (AllZip (IsTrueOf (pairs_of (history ++ entry ∷ []))) batch) parts.1 of_order

refused_after : (history : List Entry) (command : Command) (i : ℕ) → (reply_to history command ≡ Unknown i) ⊎ (reply_to history command ≡ Contradicts i) → pairs_after command (agreed_of history) ≡ pairs_of history
refused_after history Create i told = refl
refused_after history (Acquire event) i told = refl
refused_after history (Release event) i told = refl
refused_after history (Assign batch) i told = ap (λ b. cond b (pairs_with (pairs_of history) batch) (pairs_of history)) (refused_parts (agreed_of history) batch i told)

pub refused_changes_nothing : ARefusedBatchChangesNothing
refused_changes_nothing history entry i told = pairs_of-push history entry ∙ refused_after history entry.command i told
