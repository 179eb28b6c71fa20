-- The statements of the laws.
use Rattle.std.specs.Prelude.{◌⊎◌, ◌≤◌, true, false, ◌&&◌, ◌||◌, ◌==◌, ℕ, List, [], ◌∷◌, ◌++◌, ◌≡◌}
use Rattle.std.specs.List.{AllZip}
use Rattle.kr_order.specs.declared.answer.Answer.TheVariants.{Before}
use Rattle.kr_order.specs.declared.history.Entry.{Entry}
use Rattle.kr_order.specs.declared.batch.Pair.{Pair}
use Rattle.kr_order.specs.declared.batch.Outcome.{Outcome}
use Rattle.kr_order.specs.declared.history.Command.TheVariants.{Create, Assign}
use Rattle.kr_order.specs.declared.history.Reply.TheVariants.{Created, Assigned, Unknown, Contradicts}
use Rattle.kr_order.specs.History.{born_in}
use Rattle.kr_order.specs.References.{IsLive}
use Rattle.kr_order.specs.Reply.{reply_to}
use Rattle.kr_order.specs.Prefix.{IsPrefix}
use Rattle.kr_order.specs.Order.{reach, IsAcyclic}
use Rattle.kr_order.specs.Held.{is_held, held_pairs}
use Rattle.kr_order.specs.Batch.{IsTrueOf}
use Rattle.kr_order.specs.Pairs.{pairs_of, IsBefore}
use Rattle.kr_order.specs.Answer.{answer_to}

-- a live event is one that was made
abbrev pub LiveEventsAreBorn : Type 0
LiveEventsAreBorn = (history : List Entry) (event : ℕ) → IsLive history event → (1 ≤ event) × (event ≤ born_in history)

-- an event that a create names in its reply
pub record IsNew (history : List Entry) (entry : Entry) (event : ℕ) : Type 0 where
  pub not_before : IsLive history event → ⊥
  pub after : IsLive (history ++ entry ∷ []) event

abbrev pub CreatedEventIsNew : Type 0
CreatedEventIsNew =
    (history : List Entry) (entry : Entry) (event : ℕ) → entry.command ≡ Create →
    reply_to history entry.command ≡ Created (record { 0 = event }) → IsNew history entry event

-- a longer history has the pairs and the paths of the shorter one
pub record OrderGrows (history longer : List Entry) : Type 0 where
  pub pairs : IsPrefix (pairs_of history) (pairs_of longer)
  pub before : (a b : ℕ) → reach (pairs_of history) a b ≡ true → reach (pairs_of longer) a b ≡ true

-- what the pairs of an order come to, taken one after the other: without pairs no event is before another, and one
-- pair more brings the paths that go to its first event, over it, and on from its second
pub record APathGoesOverAPair : Type 0 where
  pub no_pair : (a b : ℕ) → reach [] a b ≡ false
  pub pair : (pairs : List (ℕ × ℕ)) (x y a b : ℕ) →
      reach (pairs ++ (x, y) ∷ []) a b ≡ (reach pairs a b || ((a == x || reach pairs a x) && (y == b || reach pairs y b)))

-- what is before stays before
abbrev pub TheOrderOnlyGrows : Type 0
TheOrderOnlyGrows = (history longer : List Entry) → IsPrefix history longer → OrderGrows history longer

-- no event is before itself
abbrev pub TheOrderStaysAcyclic : Type 0
TheOrderStaysAcyclic = (history : List Entry) → IsAcyclic (pairs_of history)

-- an answer before holds from its entry on
abbrev pub ABeforeIsNeverWithdrawn : Type 0
ABeforeIsNeverWithdrawn =
    (history longer : List Entry) (a b : ℕ) → answer_to history a b ≡ Before → IsPrefix history longer → IsBefore longer a b

-- each pair of a batch that is assigned has an outcome that is true of the order after it
abbrev pub OutcomesAreTrue : Type 0
OutcomesAreTrue =
    (history : List Entry) (entry : Entry) (batch : List Pair) (outcomes : List Outcome) →
    entry.command ≡ Assign batch → reply_to history entry.command ≡ Assigned outcomes →
    AllZip (IsTrueOf (pairs_of (history ++ entry ∷ []))) batch outcomes

-- a batch that is told an index leaves the order as it was
abbrev pub ARefusedBatchChangesNothing : Type 0
ARefusedBatchChangesNothing =
    (history : List Entry) (entry : Entry) (i : ℕ) →
    (reply_to history entry.command ≡ Unknown i) ⊎ (reply_to history entry.command ≡ Contradicts i) →
    pairs_of (history ++ entry ∷ []) ≡ pairs_of history

-- what is collected is idle: the held pairs have all paths that begin at a live event, and an event that is not held
-- never is again
pub record CollectedEventsAreIdle : Type 0 where
  pub paths : (history : List Entry) (a b : ℕ) → IsLive history a →
      reach (held_pairs history) a b ≡ reach (pairs_of history) a b
  pub for_good : (history longer : List Entry) (event : ℕ) → IsPrefix history longer →
      event ≤ born_in history → is_held history event ≡ false → is_held longer event ≡ false
