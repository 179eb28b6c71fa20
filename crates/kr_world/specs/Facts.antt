-- What holds of every world of a run, after the steps that came before it, and the laws of runs stand on.
use Rattle.std.specs.Prelude.{◌≡◌, Bool, true, ℕ, ◌+◌, ◌-◌, ◌≤◌, List, length, take, slice_get, All, Contains, Option, None, Some}
use Rattle.kr_order.specs.declared.ids.ClientId.{ClientId}
use Rattle.kr_order.specs.declared.ids.EventId.{EventId}
use Rattle.kr_order.specs.declared.answer.Query.{Query}
use Rattle.kr_order.specs.declared.answer.Told.{Told}
use Rattle.kr_order.specs.declared.answer.ToldPart.{ToldPart}
use Rattle.kr_order.specs.Answer.{answer_to, answers_after}
use Rattle.kr_order.specs.declared.history.Command.{Command}
use Rattle.kr_order.specs.declared.history.Entry.{Entry}
use Rattle.kr_order.specs.declared.history.Placed.{Placed}
use Rattle.kr_order.specs.declared.message.Node as nodes
use Rattle.kr_order.specs.declared.message.Node.TheVariants.{Manager, Client as AtClient, Server as AtServer}
use Rattle.kr_order.specs.declared.message.Message.{Message}
use Rattle.kr_order.specs.declared.message.Message.TheVariants.{Request, Replied, Ask, Answered}
use Rattle.kr_order.specs.declared.message.Packet.{Packet}
use Rattle.kr_order.specs.Reply.{reply_to}
use Rattle.kr_protocol.specs.Server.{Server, told_by}
use Rattle.kr_protocol.specs.Cache.{CacheItem, is_lasting}
use Rattle.kr_protocol.specs.Client.{Client}
use Rattle.kr_world.specs.World.{World, client_at}
use Rattle.kr_world.specs.Run.{Turn}
use Rattle.kr_world.specs.Lawful.{begun_by, entries_of, IsNumbered, IsCurrent}

-- the command of this number among those that the client began is this one
pub record HasBegun (past : List Turn) (caller : ClientId) (seq : ℕ) (command : Command) : Type 0 where
  pub caller_low : 1 ≤ caller.0
  pub seq_low : 1 ≤ seq
  pub begun : slice_get (begun_by caller past) (seq - 1) ≡ Some command

-- after one of these steps the client had this part of this query open, for these pairs, and had seen so much
pub record HasAsked (past : List Turn) (caller : ClientId) (q part : ℕ) (pairs : List (EventId × EventId)) (seen : ℕ) : Type 0 where
  pub caller_low : 1 ≤ caller.0
  pub turn : Turn
  pub among : Contains past turn
  pub client : Client
  pub at : client_at turn.outcome.after caller ≡ Some client
  pub q_is : client.q ≡ q
  pub part_is : client.part ≡ part
  pub asking : client.asking ≡ Some pairs
  pub seen_is : client.seen ≡ seen

-- the client asked this, and what it had seen is history
pub record IsAsked
    (past : List Turn) (history : List Entry) (caller : ClientId) (q part : ℕ) (pairs : List (EventId × EventId)) : Type 0 where
  pub seen : ℕ
  pub asked : HasAsked past caller q part pairs seen
  pub within : seen ≤ length history

-- a query that waits is one that its client asked
abbrev pub IsTrueQuery : List Turn → List Entry → Query → Type 0
IsTrueQuery past history query = IsAsked past history query.client query.q query.part query.pairs

-- each client's entries in the log are the first commands that it began
pub record IsLawfulLog (past : List Turn) (log : List Entry) : Type 0 where
  pub callers : All (λ entry. 1 ≤ entry.client.0) log
  pub numbered : (caller : ClientId) → IsNumbered (begun_by caller past) (entries_of caller log)

-- each query that waits at a server was asked, and its log is lawful
pub record IsTrueServer (past : List Turn) (history : List Entry) (server : Server) : Type 0 where
  pub waiting : All (IsTrueQuery past history) server.waiting
  pub log : IsLawfulLog past server.log

-- the answers to what the client asked, after the entry that they name; a tail's are of an entry no earlier than what
-- the client had seen, and others are sure only of what stays so
pub record AreAnswers (past : List Turn) (history : List Entry) (caller : ClientId) (q part : ℕ) (told : Told) : Type 0 where
  pub pairs : List (EventId × EventId)
  pub seen : ℕ
  pub asked : HasAsked past caller q part pairs seen
  pub within : told.entry ≤ length history
  pub tail : Bool
  pub answers : told.answers ≡ told_by tail (answers_after (take told.entry history) pairs)
  pub current : tail ≡ true → seen ≤ told.entry

-- the client's command of this number stands at this place, and has this reply
pub record StandsAt (history : List Entry) (caller : ClientId) (seq : ℕ) (placed : Placed) : Type 0 where
  pub entry : Entry
  pub caller_low : 1 ≤ caller.0
  pub place_low : 1 ≤ placed.place
  pub stands : slice_get history (placed.place - 1) ≡ Some entry
  pub client : entry.client ≡ caller
  pub seq_is : entry.seq ≡ seq
  pub reply : placed.reply ≡ reply_to (take (placed.place - 1) history) entry.command

-- a client's request is for a command that it began
abbrev pub IsTrueRequest : List Turn → nodes.Node → ℕ → Command → Type 0
IsTrueRequest past Manager seq command = Unit {0}
IsTrueRequest past (AtClient client) seq command = HasBegun past client seq command
IsTrueRequest past (AtServer server) seq command = Unit {0}

-- a reply to a client is that of its command's entry
abbrev pub IsTrueReply : List Entry → nodes.Node → ℕ → Placed → Type 0
IsTrueReply history Manager seq placed = Unit {0}
IsTrueReply history (AtClient client) seq placed = StandsAt history client seq placed
IsTrueReply history (AtServer server) seq placed = Unit {0}

-- a client asks what it has open
abbrev pub IsTrueAsk : List Turn → List Entry → nodes.Node → ℕ → ℕ → List (EventId × EventId) → Type 0
IsTrueAsk past history Manager q part pairs = Unit {0}
IsTrueAsk past history (AtClient client) q part pairs = IsAsked past history client q part pairs
IsTrueAsk past history (AtServer server) q part pairs = Unit {0}

-- a client is sent the answers to what it asked
abbrev pub IsTrueAnswer : List Turn → List Entry → nodes.Node → ℕ → ℕ → Told → Type 0
IsTrueAnswer past history Manager q part told = Unit {0}
IsTrueAnswer past history (AtClient client) q part told = AreAnswers past history client q part told
IsTrueAnswer past history (AtServer server) q part told = Unit {0}

abbrev pub IsTrueMessage : List Turn → List Entry → nodes.Node → nodes.Node → Message → Type 0
IsTrueMessage past history from to (Request seq command) = IsTrueRequest past from seq command
IsTrueMessage past history from to (Replied seq placed) = IsTrueReply history to seq placed
IsTrueMessage past history from to (Ask q part pairs) = IsTrueAsk past history from q part pairs
IsTrueMessage past history from to (Answered q part told) = IsTrueAnswer past history to q part told
IsTrueMessage past history from to other = Unit {0}

-- a packet is true, whenever it was sent
abbrev pub IsTruePacket : List Turn → List Entry → Packet → Type 0
IsTruePacket past history packet = IsTrueMessage past history packet.from packet.to packet.message

-- a told part is the answer after its entry; where it may change, the entry is no earlier than all that its client had
-- seen
pub record IsToldPart (history : List Entry) (seen : ℕ) (part : ToldPart) : Type 0 where
  pub within : part.entry ≤ length history
  pub answer : part.answer ≡ answer_to (take part.entry history) part.a.0 part.b.0
  pub current : IsCurrent seen part part.answer

-- what a client remembers is the answer after an entry that it has seen, and stays so
pub record IsTrueItem (history : List Entry) (seen : ℕ) (item : CacheItem) : Type 0 where
  pub within : item.entry ≤ seen
  pub answer : item.answer ≡ answer_to (take item.entry history) item.first item.second
  pub lasts : is_lasting item.first item.second item.answer ≡ true

-- how many calls of a client are open
abbrev pub open_calls : Option Command → ℕ
open_calls None = 0
open_calls (Some command) = 1

-- what a client had open then is not later than what it has open now, and where it is the same part of the same query,
-- it is of the same pairs, and the client has seen nothing new
pub record IsNoLater (before now : Client) (pairs : List (EventId × EventId)) : Type 0 where
  pub q : before.q ≤ now.q
  pub part : (remaining : List (EventId × EventId)) → now.asking ≡ Some remaining → before.q ≡ now.q → before.part ≤ now.part
  pub same :
      (remaining : List (EventId × EventId))
      → now.asking ≡ Some remaining
      → before.q ≡ now.q
      → before.part ≡ now.part
      → (pairs ≡ remaining) × (before.seen ≡ now.seen)

-- so it was after this step
pub record WasNoLater (now : Client) (turn : Turn) : Type 0 where
  pub was :
      (before : Client) (pairs : List (EventId × EventId))
      → client_at turn.outcome.after now.id ≡ Some before
      → before.asking ≡ Some pairs
      → IsNoLater before now pairs

-- the client's queries: it has none open beside a command, and what it has open it has asked last
pub record AreTrueQueries (past : List Turn) (client : Client) : Type 0 where
  pub alone : (pairs : List (EventId × EventId)) → client.asking ≡ Some pairs → client.call ≡ None
  pub asked :
      (pairs : List (EventId × EventId)) → client.asking ≡ Some pairs → HasAsked past client.id client.q client.part pairs client.seen
  pub last : All (WasNoLater client) past

-- the client at an index has seen only history, and remembers what is true
pub record IsTrueClient (past : List Turn) (history : List Entry) (i : ℕ) (client : Client) : Type 0 where
  pub id : client.id.0 ≡ i + 1
  -- it counts what it began
  pub seq : client.seq ≡ length (begun_by client.id past)
  -- its open command is the last that it began
  pub command : (command : Command) → client.call ≡ Some command → HasBegun past client.id client.seq command
  -- while it has no open call, all that it began is in the history
  pub idle : client.call ≡ None → length (entries_of client.id history) ≡ client.seq
  pub within : client.seen ≤ length history
  -- the entry of its open call is not in what it has seen
  pub old : length (entries_of client.id (take client.seen history)) + open_calls client.call ≤ client.seq
  pub queries : AreTrueQueries past client
  pub cache : All (IsTrueItem history client.seen) client.cache

-- seqs are in order
pub record IsInStep (past : List Turn) (history : List Entry) : Type 0 where
  -- each client's entries are the first commands that it began
  pub numbered : (caller : ClientId) → IsNumbered (begun_by caller past) (entries_of caller history)
  -- and of the commands that it began at most the last is not there
  pub one_open : (caller : ClientId) → length (begun_by caller past) ≤ length (entries_of caller history) + 1

pub record AreFacts (past : List Turn) (world : World) : Type 0 where
  -- packets are true
  pub packets : All (IsTruePacket past world.history) world.bag
  -- seqs are in order
  pub in_step : IsInStep past world.history
  -- clients have seen only history, and remember what is true
  pub clients : (i : ℕ) (client : Client) → slice_get world.clients i ≡ Some client → IsTrueClient past world.history i client
  -- queries that wait were asked, and logs are lawful
  pub servers : All (IsTrueServer past world.history) world.servers
