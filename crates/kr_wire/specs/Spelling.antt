-- The one spelling of each packet: its fields one after the other, each number with its highest byte first.
use Rattle.std.specs.Prelude.{ℕ, List, [], ◌∷◌, ◌++◌, length, flat_map, Option, None, Some}
use Rattle.std.specs.Int.{w32, w64, to_be_bytes}
use Rattle.kr_order.specs.declared.ids.EventId.{EventId}
use Rattle.kr_order.specs.declared.ids.ServerId.{ServerId}
use Rattle.kr_order.specs.declared.batch.Kind.{Kind}
use Rattle.kr_order.specs.declared.batch.Kind.TheVariants.{Must, Prefer}
use Rattle.kr_order.specs.declared.batch.Pair.{Pair}
use Rattle.kr_order.specs.declared.batch.Outcome.{Outcome}
use Rattle.kr_order.specs.declared.batch.Outcome.TheVariants as outcomes
use Rattle.kr_order.specs.declared.answer.Answer.{Answer}
use Rattle.kr_order.specs.declared.answer.Answer.TheVariants as answers
use Rattle.kr_order.specs.declared.history.Command.{Command}
use Rattle.kr_order.specs.declared.history.Command.TheVariants.{Create, Assign, Acquire, Release}
use Rattle.kr_order.specs.declared.history.Entry.{Entry}
use Rattle.kr_order.specs.declared.history.Reply.{Reply}
use Rattle.kr_order.specs.declared.history.Reply.TheVariants.{Created, Assigned, Count, Unknown, Contradicts}
use Rattle.kr_order.specs.declared.view.View.{View}
use Rattle.kr_order.specs.declared.message.Node.{Node}
use Rattle.kr_order.specs.declared.message.Node.TheVariants.{Manager, Client, Server}
use Rattle.kr_order.specs.declared.message.Message.{Message}
use Rattle.kr_order.specs.declared.message.Message.TheVariants.{Request, Append, Ack, NewView, Replied, Ask, Answered, Refer, Joined}
use Rattle.kr_order.specs.declared.message.Packet.{Packet}

-- a number in 4 bytes, and one in 8
abbrev pub in_4 : ℕ → List ℕ
in_4 n = to_be_bytes w32 n

abbrev pub in_8 : ℕ → List ℕ
in_8 n = to_be_bytes w64 n

-- a number in one byte
abbrev pub in_1 : ℕ → List ℕ
in_1 n = n ∷ []

-- a count in one byte, and so many items
abbrev pub counted : {item : Type 0} → (item → List ℕ) → List item → List ℕ
counted bytes items = in_1 (length items) ++ flat_map bytes items

abbrev pub kind_number : Kind → ℕ
kind_number Must = 1
kind_number Prefer = 2

-- whether the pair must hold, and its two events
abbrev pub pair_bytes : Pair → List ℕ
pair_bytes pair = in_1 (kind_number pair.kind) ++ in_8 pair.first.0 ++ in_8 pair.second.0

-- two events that a query asks about
abbrev pub asked_bytes : EventId × EventId → List ℕ
asked_bytes pair = in_8 pair.0.0 ++ in_8 pair.1.0

abbrev pub command_number : Command → ℕ
command_number Create = 1
command_number (Assign batch) = 2
command_number (Acquire event) = 3
command_number (Release event) = 4

-- what follows its number
abbrev pub command_fields : Command → List ℕ
command_fields Create = []
command_fields (Assign batch) = counted pair_bytes batch
command_fields (Acquire event) = in_8 event.0
command_fields (Release event) = in_8 event.0

abbrev pub command_bytes : Command → List ℕ
command_bytes command = in_1 (command_number command) ++ command_fields command

-- who gave the command, its number among that client's, and the command
abbrev pub entry_bytes : Entry → List ℕ
entry_bytes entry = in_4 entry.client.0 ++ in_8 entry.seq ++ command_bytes entry.command

abbrev pub outcome_number : Outcome → ℕ
outcome_number outcomes.Kept = 1
outcome_number outcomes.Reversed = 2
outcome_number outcomes.Same = 3

abbrev pub outcome_bytes : Outcome → List ℕ
outcome_bytes outcome = in_1 (outcome_number outcome)

abbrev pub reply_number : Reply → ℕ
reply_number (Created event) = 1
reply_number (Assigned outcomes) = 2
reply_number (Count count) = 3
reply_number (Unknown index) = 4
reply_number (Contradicts index) = 5

-- what follows its number
abbrev pub reply_fields : Reply → List ℕ
reply_fields (Created event) = in_8 event.0
reply_fields (Assigned outcomes) = counted outcome_bytes outcomes
reply_fields (Count count) = in_8 count
reply_fields (Unknown index) = in_4 index
reply_fields (Contradicts index) = in_4 index

abbrev pub reply_bytes : Reply → List ℕ
reply_bytes reply = in_1 (reply_number reply) ++ reply_fields reply

abbrev pub answer_number : Answer → ℕ
answer_number answers.Before = 1
answer_number answers.After = 2
answer_number answers.Same = 3
answer_number answers.Concurrent = 4
answer_number answers.Unknown = 5
answer_number answers.Unsure = 6

abbrev pub answer_bytes : Answer → List ℕ
answer_bytes answer = in_1 (answer_number answer)

abbrev pub server_bytes : ServerId → List ℕ
server_bytes server = in_4 server.0

-- 0 where none is being added
abbrev pub joiner_number : Option ServerId → ℕ
joiner_number None = 0
joiner_number (Some joiner) = joiner.0

-- its number, its chain, and the server that is being added
abbrev pub view_bytes : View → List ℕ
view_bytes view = in_8 view.number ++ counted server_bytes view.chain ++ in_4 (joiner_number view.joiner)

-- 0 for the manager
abbrev pub node_number : Node → ℕ
node_number Manager = 0
node_number (Client client) = client.0
node_number (Server server) = server.0

abbrev pub node_bytes : Node → List ℕ
node_bytes node = in_4 (node_number node)

abbrev pub message_number : Message → ℕ
message_number (Request seq command) = 1
message_number (Append first entries) = 2
message_number (Ack done len) = 3
message_number (NewView view) = 4
message_number (Ask q part pairs) = 5
message_number (Replied seq placed) = 6
message_number (Answered q part told) = 7
message_number (Refer q part view) = 8
message_number (Joined joiner) = 9

-- what follows sender and addressee
abbrev pub message_fields : Message → List ℕ
message_fields (Request seq command) = in_8 seq ++ command_bytes command
message_fields (Append first entries) = in_8 first ++ counted entry_bytes entries
message_fields (Ack done len) = in_8 done ++ in_8 len
message_fields (NewView view) = view_bytes view
message_fields (Ask q part pairs) = in_8 q ++ in_1 part ++ counted asked_bytes pairs
message_fields (Replied seq placed) = in_8 seq ++ in_8 placed.place ++ reply_bytes placed.reply
message_fields (Answered q part told) = in_8 q ++ in_1 part ++ in_8 told.entry ++ counted answer_bytes told.answers
message_fields (Refer q part view) = in_8 q ++ in_1 part ++ view_bytes view
message_fields (Joined joiner) = server_bytes joiner

-- the version, which is 1; the number of the kind of message; the sender; the addressee; and what the message says
abbrev pub spelling : Packet → List ℕ
spelling packet =
    in_1 1 ++ in_1 (message_number packet.message) ++ node_bytes packet.from ++ node_bytes packet.to ++ message_fields packet.message
