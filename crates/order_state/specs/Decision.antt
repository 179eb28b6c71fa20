-- What a command is to do, before it is done: its reply, and the pairs that it adds to the order.
use Rattle.std.specs.Prelude.{◌≡◌, ◌++◌, ℕ, ◌+◌, ◌-◌, Option, None, Some, List, []}
use Rattle.kr_order.specs.declared.ids.EventId.{EventId}
use Rattle.kr_order.specs.declared.batch.Pair.{Pair}
use Rattle.kr_order.specs.declared.history.Command.{Command}
use Rattle.kr_order.specs.declared.history.Command.TheVariants.{Create, Assign, Acquire, Release}
use Rattle.kr_order.specs.declared.history.Reply.{Reply}
use Rattle.kr_order.specs.declared.history.Reply.TheVariants.{Created}
use Rattle.kr_order.specs.Batch.{contradicts, pairs_with, outcomes_of}
use Rattle.kr_order.specs.Agreed.{Agreed, first_unknown, pairs_after}
use Rattle.kr_order.specs.Reply.{batch_reply, count_reply}
use Rattle.reach.specs.Search.{numbered}
use Rattle.batch_assign.specs.declared.adds.Plan.{Plan}
use Rattle.batch_assign.specs.declared.adds.BatchStop.{BatchStop}
use Rattle.batch_assign.specs.declared.adds.BatchStop.TheVariants as stop
use Rattle.order_state.specs.declared.kept.Decision.{Decision}

-- the pairs that a plan adds, if there is one
abbrev pub adds_of : Option Plan → List (ℕ × ℕ)
adds_of None = []
adds_of (Some plan) = numbered plan.adds

-- the reply of the command, by what is agreed on before it
abbrev pub reply_from : Agreed → Command → Reply
reply_from agreed Create = Created (record { 0 = agreed.born + 1 })
reply_from agreed (Assign batch) = batch_reply agreed batch
reply_from agreed (Acquire event) = count_reply (agreed.count event.0) (agreed.count event.0 + 1)
reply_from agreed (Release event) = count_reply (agreed.count event.0) (agreed.count event.0 - 1)

-- the plan of a batch that is accepted
pub record IsPlan (agreed : Agreed) (batch : List Pair) (plan : Plan) : Type 0 where
  pub known : first_unknown agreed batch ≡ None
  pub agreeing : contradicts agreed.pairs batch ≡ None
  pub adds : agreed.pairs ++ numbered plan.adds ≡ pairs_with agreed.pairs batch
  pub outcomes : plan.outcomes ≡ outcomes_of agreed.pairs batch

-- the first must of a batch of live events that contradicts
pub record IsOpposed (agreed : Agreed) (batch : List Pair) (i : ℕ) : Type 0 where
  pub known : first_unknown agreed batch ≡ None
  pub opposed : contradicts agreed.pairs batch ≡ Some i

-- why a batch has no plan
abbrev pub IsStop : Agreed → List Pair → BatchStop → Type 0
IsStop agreed batch (stop.Unknown i) = first_unknown agreed batch ≡ Some i
IsStop agreed batch (stop.Contradicts i) = IsOpposed agreed batch i
IsStop agreed batch stop.NoMemory = Unit {0}

-- what the command is to do
pub record IsDecision (agreed : Agreed) (command : Command) (decision : Decision) : Type 0 where
  pub reply : decision.reply ≡ reply_from agreed command
  pub adds : pairs_after command agreed ≡ agreed.pairs ++ adds_of decision.plan
