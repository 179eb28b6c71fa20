-- What a command does after a history, as its caller is told.
use Rattle.std.specs.Prelude.{ℕ, ◌+◌, ◌-◌, nat_lt, if◌then◌else◌, Option, None, Some, List}
use Rattle.kr_order.specs.declared.batch.Pair.{Pair}
use Rattle.kr_order.specs.declared.batch.Outcome.{Outcome}
use Rattle.kr_order.specs.declared.history.Command.{Command}
use Rattle.kr_order.specs.declared.history.Command.TheVariants.{Create, Assign, Acquire, Release}
use Rattle.kr_order.specs.declared.history.Entry.{Entry}
use Rattle.kr_order.specs.declared.history.Reply.{Reply}
use Rattle.kr_order.specs.declared.history.Reply.TheVariants.{Created, Assigned, Count, Unknown, Contradicts}
use Rattle.kr_order.specs.History.{born_in}
use Rattle.kr_order.specs.Batch.{contradicts, outcomes_of}
use Rattle.kr_order.specs.Agreed.{Agreed, first_unknown, agreed_of}
use Rattle.kr_order.specs.References.{count_in}

-- the reply to a batch whose musts contradict at this index, if they do
abbrev pub checked_reply : Option ℕ → List Outcome → Reply
checked_reply (Some i) outcomes = Contradicts i
checked_reply None outcomes = Assigned outcomes

-- the reply to a batch with this index of an unknown event, if there is one
abbrev pub known_reply : Option ℕ → Reply → Reply
known_reply (Some i) checked = Unknown i
known_reply None checked = checked

-- the reply to a batch: unknown events come first, then musts that contradict
abbrev pub batch_reply : Agreed → List Pair → Reply
batch_reply agreed batch =
    known_reply (first_unknown agreed batch) (checked_reply (contradicts agreed.pairs batch) (outcomes_of agreed.pairs batch))

-- the reply to a change of an event's references, of which it had and has so many
abbrev pub count_reply : ℕ → ℕ → Reply
count_reply before now = if nat_lt 0 before then Count now else Unknown 0

-- the reply of the command where the history is all that came before it
abbrev pub reply_to : List Entry → Command → Reply
reply_to history Create = Created (record { 0 = born_in history + 1 })
reply_to history (Assign batch) = batch_reply (agreed_of history) batch
reply_to history (Acquire event) = count_reply (count_in history event.0) (count_in history event.0 + 1)
reply_to history (Release event) = count_reply (count_in history event.0) (count_in history event.0 - 1)
