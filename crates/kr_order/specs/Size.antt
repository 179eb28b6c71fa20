-- How many bytes a packet takes on the way, field by field: numbers have 8 bytes, ids of nodes 4, and tags, signs,
-- parts and counts one.
use Rattle.std.specs.Prelude.{ℕ, ◌+◌, ◌*◌, List, length, sum_by}
use Rattle.kr_order.specs.declared.history.Command.{Command}
use Rattle.kr_order.specs.declared.history.Command.TheVariants.{Create, Assign, Acquire, Release}
use Rattle.kr_order.specs.declared.history.Entry.{Entry}
use Rattle.kr_order.specs.declared.history.Reply.{Reply}
use Rattle.kr_order.specs.declared.history.Reply.TheVariants.{Created, Assigned, Count, Unknown, Contradicts}
use Rattle.kr_order.specs.declared.message.Message.{Message}
use Rattle.kr_order.specs.declared.message.Message.TheVariants.{Request, Append, Ack, NewView, Replied, Ask, Answered, Refer, Joined}
use Rattle.kr_order.specs.declared.message.Packet.{Packet}
use Rattle.kr_order.specs.declared.view.View.{View}

-- a tag, and of a batch a count, and a kind and two events for each pair
abbrev pub command_size : Command → ℕ
command_size Create = 1
command_size (Assign batch) = 2 + 17 * length batch
command_size (Acquire event) = 9
command_size (Release event) = 9

-- a client, a number and a command
abbrev pub entry_size : Entry → ℕ
entry_size entry = 12 + command_size entry.command

abbrev pub entries_size : List Entry → ℕ
entries_size entries = sum_by entry_size entries

-- a tag, and a number, or of a batch a count and its outcomes, or an index
abbrev pub reply_size : Reply → ℕ
reply_size (Created event) = 9
reply_size (Assigned outcomes) = 2 + length outcomes
reply_size (Count count) = 9
reply_size (Unknown index) = 5
reply_size (Contradicts index) = 5

-- a number, a count, the members, and the joiner
abbrev pub view_size : View → ℕ
view_size view = 13 + 4 * length view.chain

-- what follows the version, the kind, the sender and the addressee
abbrev pub message_size : Message → ℕ
message_size (Request seq command) = 8 + command_size command
message_size (Append first entries) = 9 + entries_size entries
message_size (Ack done len) = 16
message_size (NewView view) = view_size view
message_size (Replied seq placed) = 16 + reply_size placed.reply
message_size (Ask q part pairs) = 10 + 16 * length pairs
message_size (Answered q part told) = 18 + length told.answers
message_size (Refer q part view) = 9 + view_size view
message_size (Joined joiner) = 4

-- the version, the kind, the sender, the addressee, and the rest
abbrev pub packet_size : Packet → ℕ
packet_size packet = 10 + message_size packet.message
