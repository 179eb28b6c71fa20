-- What a server may do with a packet, or when its turn comes: the shape of every reaction, whatever the world is.
use Rattle.std.proofs.Common.{◌≡◌, ℕ, ◌⊎◌, max, ◌+◌, ◌-◌, ◌<◌, ◌≤◌, true, false, List, [], ◌∷◌, ◌++◌, length}
use Rattle.std.specs.Prelude.{Option, Some, All, Contains}
use Rattle.kr_order.specs.declared.ids.ClientId.{ClientId}
use Rattle.kr_order.specs.declared.ids.ServerId.{ServerId}
use Rattle.kr_order.specs.declared.ids.EventId.{EventId}
use Rattle.kr_order.specs.declared.answer.Query.{Query}
use Rattle.kr_order.specs.declared.history.Command.{Command}
use Rattle.kr_order.specs.declared.history.Entry.{Entry}
use Rattle.kr_order.specs.declared.history.DoneEntry.{DoneEntry}
use Rattle.kr_order.specs.declared.message.Node as nodes
use Rattle.kr_order.specs.declared.message.Node.TheVariants.{Client as OfClient, Server as OfServer}
use Rattle.kr_order.specs.declared.message.Message.TheVariants.{Request, Append, Ack, Ask}
use Rattle.kr_order.specs.declared.message.Packet.{Packet}
use Rattle.kr_order.specs.declared.view.View.{View}
use Rattle.kr_order.specs.Done.{done_of}
use Rattle.kr_protocol.specs.Reaction.{Reaction}
use Rattle.kr_protocol.specs.Server.{Server, most_waiting, acknowledged, is_at_tail, is_server, prev, next, behind, may_enter, missing, next_entries, reply_packet, answer_packet, refer_packet, joined_packet}

-- which entries come to the end of its log with a packet, or with none
pub data Gains (server : Server) : Option Packet → List Entry → Type 0 where
  -- none
  gains_none : (came : Option Packet) → Gains server came []
  -- a client's new command, where the server is the first member
  gains_command :
      (client : ClientId) (to : nodes.Node) (seq : ℕ) (command : Command)
      → may_enter server (record { client = client; seq = seq; command = command }) ≡ true
      → Gains server (Some (record { from = OfClient client; to = to; message = Request seq command })) (record { client = client; seq = seq; command = command } ∷ [])
  -- what it lacks of the entries that the server before it sent
  gains_entries :
      (from : ServerId) (to : nodes.Node) (first : ℕ) (entries : List Entry)
      → is_server (prev server) from ≡ true
      → Gains server (Some (record { from = OfServer from; to = to; message = Append first entries })) (missing server.log first entries)

-- how many of its entries are acknowledged then
pub data Acknowledges (server : Server) : Option Packet → List Entry → ℕ → Type 0 where
  -- as many as before, where it gains none
  done_stays : (came : Option Packet) → Acknowledges server came [] server.done
  -- or is not the tail
  done_before :
      (came : Option Packet) (more : List Entry)
      → is_at_tail server ≡ false
      → Acknowledges server came more server.done
  -- all, where it is the tail
  done_all :
      (came : Option Packet) (more : List Entry)
      → is_at_tail server ≡ true
      → Acknowledges server came more (length (server.log ++ more))
  -- as many as the next server said, or as its log has
  done_told :
      (from : ServerId) (to : nodes.Node) (done len upto : ℕ)
      → is_server (next server) from ≡ true
      → server.done < upto
      → upto ≤ done
      → upto ≤ length server.log
      → Acknowledges server (Some (record { from = OfServer from; to = to; message = Ack done len })) [] upto

-- which queries wait then
pub data Waits (server : Server) : Option Packet → List Query → Type 0 where
  -- those that waited
  waits_on : (came : Option Packet) → Waits server came server.waiting
  -- a client's query too, where there is room
  waits_more :
      (client : ClientId) (to : nodes.Node) (q part : ℕ) (pairs : List (EventId × EventId))
      → length server.waiting < most_waiting
      → Waits server (Some (record { from = OfClient client; to = to; message = Ask q part pairs })) (server.waiting ++ record { client = client; q = q; part = part; pairs = pairs } ∷ [])
  -- none
  waits_none : (came : Option Packet) → Waits server came []

-- what it sends: the server before, and the server that it has become
pub data IsSent (came : Option Packet) (old after : Server) : Packet → Type 0 where
  -- the reply of an acknowledged entry
  sends_reply :
      (done : DoneEntry)
      → Contains (done_of (acknowledged after)) done
      → IsSent came old after (reply_packet after.id done)
  -- what is acknowledged to it and how many entries it has
  sends_ack :
      (to : ServerId)
      → IsSent came old after (record { from = OfServer after.id; to = OfServer to; message = Ack after.done (length after.log) })
  -- entries that the next server may lack
  sends_window :
      (to : ServerId)
      → IsSent came old after (record { from = OfServer after.id; to = OfServer to; message = Append (after.fed + 1) (next_entries after) })
  -- answers to a query that waited
  sends_answer : (query : Query) → Contains old.waiting query → IsSent came old after (answer_packet old query)
  -- which view it has adopted, to who asks
  sends_view : (view : View) (query : Query) → IsSent came old after (refer_packet old view query)
  -- that the joiner behind it has what it has to have, which that one has said
  sends_joined :
      (from : ServerId) (to : nodes.Node) (done len : ℕ)
      → came ≡ Some (record { from = OfServer from; to = to; message = Ack done len })
      → behind after ≡ Some from
      → after.need ≤ len
      → IsSent came old after (joined_packet after from)

-- the shape of a reaction to a packet, or to none
pub record HasShape (came : Option Packet) (old : Server) (reaction : Reaction Server) : Type 0 where
  pub id : reaction.after.id ≡ old.id
  pub view : reaction.after.view ≡ old.view
  pub need : reaction.after.need ≡ old.need
  pub more : List Entry
  pub log : reaction.after.log ≡ old.log ++ more
  pub gains : Gains old came more
  pub done : Acknowledges old came more reaction.after.done
  pub fed : reaction.after.fed ≤ max old.fed (length old.log)
  pub waiting : Waits old came reaction.after.waiting
  pub sent : All (IsSent came old reaction.after) reaction.sent
  -- each reply of the tail is one of an entry that is newly acknowledged; beside replies and answers go three packets
  pub replies : ℕ
  pub middle : is_at_tail old ≡ false → replies ≡ 0
  pub newly : replies ≤ reaction.after.done - old.done
  pub few : length reaction.sent ≤ max (length old.waiting) (replies + 3)
  -- where entries were gained, something is sent
  pub some : (more ≡ []) ⊎ (1 ≤ length reaction.sent)

-- what is acknowledged, and what was sent on, stands in the log
pub record IsCounted (server : Server) : Type 0 where
  pub done : server.done ≤ length server.log
  pub fed : server.fed ≤ length server.log
