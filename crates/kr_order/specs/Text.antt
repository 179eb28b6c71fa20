-- How scripts and transcripts spell ids, commands, replies, entries and messages.
use Rattle.std.specs.Prelude.{ℕ, List, [], ◌++◌, length, flat_map, codes}
use Rattle.std.specs.Fmt.{decimal}
use Rattle.kr_order.specs.declared.ids.ClientId.{ClientId}
use Rattle.kr_order.specs.declared.ids.ServerId.{ServerId}
use Rattle.kr_order.specs.declared.ids.EventId.{EventId}
use Rattle.kr_order.specs.declared.answer.Teller.{Teller}
use Rattle.kr_order.specs.declared.answer.Teller.TheVariants as teller
use Rattle.kr_order.specs.declared.answer.ToldPart.{ToldPart}
use Rattle.kr_order.specs.declared.batch.Kind.{Kind}
use Rattle.kr_order.specs.declared.batch.Kind.TheVariants.{Must, Prefer}
use Rattle.kr_order.specs.declared.batch.Pair.{Pair}
use Rattle.kr_order.specs.declared.batch.Outcome.{Outcome}
use Rattle.kr_order.specs.declared.batch.Outcome.TheVariants.{Kept, Reversed, Same}
use Rattle.kr_order.specs.declared.answer.Answer.{Answer}
use Rattle.kr_order.specs.declared.answer.Answer.TheVariants as answers
use Rattle.kr_order.specs.declared.history.Command.{Command}
use Rattle.kr_order.specs.declared.history.Command.TheVariants.{Create, Assign, Acquire, Release}
use Rattle.kr_order.specs.declared.history.Reply.{Reply}
use Rattle.kr_order.specs.declared.history.Reply.TheVariants.{Created, Assigned, Count, Unknown, Contradicts}
use Rattle.kr_order.specs.declared.history.DoneEntry.{DoneEntry}
use Rattle.kr_order.specs.declared.message.Node.{Node}
use Rattle.kr_order.specs.declared.message.Node.TheVariants.{Manager, Client, Server}
use Rattle.kr_order.specs.declared.message.Message.{Message}
use Rattle.kr_order.specs.declared.message.Message.TheVariants.{Request, Append, Ack, NewView, Replied, Ask, Answered, Refer, Joined}

-- a client
abbrev pub client_text : ClientId → List ℕ
client_text client = codes "c" ++ decimal client.0

-- a server
abbrev pub server_text : ServerId → List ℕ
server_text server = codes "s" ++ decimal server.0

-- a party to the protocol
abbrev pub node_text : Node → List ℕ
node_text Manager = codes "m"
node_text (Client client) = client_text client
node_text (Server server) = server_text server

-- the sign between the events of a pair
abbrev pub kind_sign : Kind → List ℕ
kind_sign Must = codes "!"
kind_sign Prefer = codes "?"

-- a pair, as 1!2 for a must and 1?2 for a prefer
abbrev pub pair_word : Pair → List ℕ
pair_word pair = decimal pair.first.0 ++ kind_sign pair.kind ++ decimal pair.second.0

-- the words of a batch, each with a space before it
abbrev pub pair_words : List Pair → List ℕ
pair_words pairs = flat_map (λ pair. codes " " ++ pair_word pair) pairs

-- the first word of the command's line
abbrev pub command_word : Command → List ℕ
command_word Create = codes "create"
command_word (Assign batch) = codes "assign"
command_word (Acquire event) = codes "acquire"
command_word (Release event) = codes "release"

-- the words that follow it, each with a space before it
abbrev pub command_words : Command → List ℕ
command_words Create = []
command_words (Assign batch) = pair_words batch
command_words (Acquire event) = codes " " ++ decimal event.0
command_words (Release event) = codes " " ++ decimal event.0

-- a command as an entry's line has it, without its client
abbrev pub command_text : Command → List ℕ
command_text command = command_word command ++ command_words command

-- an outcome
abbrev pub outcome_word : Outcome → List ℕ
outcome_word Kept = codes "kept"
outcome_word Reversed = codes "reversed"
outcome_word Same = codes "same"

-- the words of a batch's outcomes, each with a space before it
abbrev pub outcome_words : List Outcome → List ℕ
outcome_words outcomes = flat_map (λ outcome. codes " " ++ outcome_word outcome) outcomes

-- a reply, as it stands behind a command
abbrev pub reply_text : Reply → List ℕ
reply_text (Created event) = codes "created " ++ decimal event.0
reply_text (Assigned outcomes) = codes "assigned" ++ outcome_words outcomes
reply_text (Count count) = codes "count " ++ decimal count
reply_text (Unknown index) = codes "unknown " ++ decimal index
reply_text (Contradicts index) = codes "contradicts " ++ decimal index

-- an entry's line, without its end
abbrev pub done_text : DoneEntry → List ℕ
done_text done =
    decimal done.place ++ codes " " ++ client_text done.entry.client ++ codes " " ++ decimal done.entry.seq
    ++ codes " " ++ command_text done.entry.command ++ codes " = " ++ reply_text done.reply

-- an answer; the last is never printed
abbrev pub answer_word : Answer → List ℕ
answer_word answers.Before = codes "before"
answer_word answers.After = codes "after"
answer_word answers.Same = codes "same"
answer_word answers.Concurrent = codes "concurrent"
answer_word answers.Unknown = codes "unknown"
answer_word answers.Unsure = codes "unsure"

-- two events that a query asks about
abbrev pub asked_word : EventId × EventId → List ℕ
asked_word pair = decimal pair.0.0 ++ codes "," ++ decimal pair.1.0

-- who told a client
abbrev pub teller_text : Teller → List ℕ
teller_text (teller.Server server) = server_text server
teller_text teller.Cache = codes "cache"

-- what a part's line says behind its client
abbrev pub part_text : ToldPart → List ℕ
part_text part =
    decimal part.q ++ codes " " ++ asked_word (part.a, part.b) ++ codes " " ++ answer_word part.answer
    ++ codes " at " ++ decimal part.entry ++ codes " by " ++ teller_text part.by

-- what a packet's line says of its message
abbrev pub message_text : Message → List ℕ
message_text (Request seq command) = codes "request " ++ decimal seq
message_text (Append first entries) = codes "append " ++ decimal first ++ codes " " ++ decimal (length entries)
message_text (Ack done len) = codes "ack " ++ decimal done ++ codes " " ++ decimal len
message_text (NewView view) = codes "view " ++ decimal view.number
message_text (Replied seq placed) = codes "reply " ++ decimal seq ++ codes " " ++ decimal placed.place
message_text (Ask q part pairs) = codes "ask " ++ decimal q ++ codes " " ++ decimal part ++ codes " " ++ decimal (length pairs)
message_text (Answered q part told) = codes "answer " ++ decimal q ++ codes " " ++ decimal part ++ codes " " ++ decimal told.entry
message_text (Refer q part view) = codes "refer " ++ decimal q ++ codes " " ++ decimal part ++ codes " " ++ decimal view.number
message_text (Joined joiner) = codes "joined " ++ decimal joiner.0
