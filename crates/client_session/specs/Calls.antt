-- What the calls of a client do.
use Rattle.std.specs.Prelude.{◌≡◌, ◌⊎◌, ◌&&◌, ◌==◌, nat_lt, ℕ, Bool, true, false, is_some, [], ◌∷◌, List, Result, Ok, Err, Option, None, Some}
use Rattle.kr_order.specs.declared.ids.NoMemory.{NoMemory as OutOfMemory}
use Rattle.kr_order.specs.declared.ids.EventId.{EventId}
use Rattle.kr_order.specs.declared.ids.ServerId.{ServerId}
use Rattle.kr_order.specs.declared.history.Command.{Command}
use Rattle.kr_order.specs.declared.answer.Told.{Told}
use Rattle.kr_order.specs.declared.message.Node as nodes
use Rattle.kr_order.specs.declared.message.Node.TheVariants.{Manager, Client as FromClient, Server}
use Rattle.kr_order.specs.declared.message.Message.{Message}
use Rattle.kr_order.specs.declared.message.Message.TheVariants.{Replied, Answered, Refer}
use Rattle.kr_order.specs.declared.message.Packet.{Packet}
use Rattle.kr_order.specs.declared.view.View.{View}
use Rattle.kr_protocol.specs.Client.{Client, Hearing, is_busy, begins, asks, retries, client_takes, may_answer_all}
use Rattle.client_session.specs.declared.client.CallStop.{CallStop}
use Rattle.client_session.specs.declared.client.CallStop.TheVariants.{Busy, NoMemory}
use Rattle.client_session.specs.declared.client.RetryStop.{RetryStop}
use Rattle.client_session.specs.declared.client.RetryStop.TheVariants as retry
use Rattle.client_session.specs.declared.client.Heard.{Heard}
use Rattle.client_session.specs.ClientStanding.{ClientStanding}

-- the client has failed: a call found no memory, which it may where this is so, or an earlier call had found none
pub record FindsNoMemory (takes : Type 0) (old new : ClientStanding) : Type 0 where
  pub cause : (old.failed ≡ true) ⊎ takes
  pub after : new.failed ≡ true

-- the command was opened, and its request is to be sent
pub record Opens (old : ClientStanding) (command : Command) (packet : Packet) (new : ClientStanding) : Type 0 where
  pub idle : is_busy old.client ≡ false
  pub whole : old.failed ≡ false
  pub after : new ≡ record { client = (begins old.client command).after; failed = false }
  pub sent : (begins old.client command).sent ≡ packet ∷ []

-- a call is open already, and stays
pub record StaysBusy (old new : ClientStanding) : Type 0 where
  pub busy : is_busy old.client ≡ true
  pub whole : old.failed ≡ false
  pub after : new ≡ old

abbrev pub Begins : ClientStanding → Command → Result Packet CallStop → ClientStanding → Type 0
Begins old command (Ok packet) new = Opens old command packet new
Begins old command (Err Busy) new = StaysBusy old new
Begins old command (Err NoMemory) new = FindsNoMemory (is_busy old.client ≡ false) old new

-- a call is open, and is tried once more at the server
pub record TriesAgain (client : ClientStanding) (server : ServerId) (packet : Packet) : Type 0 where
  pub busy : is_busy client.client ≡ true
  pub whole : client.failed ≡ false
  pub sent : retries client.client server ≡ packet ∷ []

-- no call is open
pub record IsIdle (client : ClientStanding) : Type 0 where
  pub idle : is_busy client.client ≡ false
  pub whole : client.failed ≡ false

abbrev pub Retries : ClientStanding → ServerId → Result Packet RetryStop → Type 0
Retries client server (Ok packet) = TriesAgain client server packet
Retries client server (Err retry.NothingOpen) = IsIdle client
Retries client server (Err retry.NoMemory) = (client.failed ≡ true) ⊎ (is_busy client.client ≡ true)

-- the client does as this hearing says
pub record Heeds (hearing : Hearing) (heard : Heard) (new : ClientStanding) : Type 0 where
  pub after : new ≡ record { client = hearing.after; failed = false }
  pub told : heard.told ≡ hearing.told
  pub parts : heard.parts ≡ hearing.parts
  pub sent : heard.packets ≡ hearing.sent

-- or has failed
abbrev pub Hears : Hearing → Result Heard OutOfMemory → ClientStanding → Type 0
Hears hearing (Ok heard) new = Heeds hearing heard new
Hears hearing (Err stop) new = new.failed ≡ true

-- the query was begun: what the client remembers is told, and what asks the server for the rest is to be sent
pub record OpensQuery
    (old : ClientStanding) (server : ServerId) (pairs : List (EventId × EventId)) (heard : Heard) (new : ClientStanding) : Type 0 where
  pub idle : is_busy old.client ≡ false
  pub whole : old.failed ≡ false
  pub heeds : Heeds (asks old.client server pairs) heard new

abbrev pub Asks : ClientStanding → ServerId → List (EventId × EventId) → Result Heard CallStop → ClientStanding → Type 0
Asks old server pairs (Ok heard) new = OpensQuery old server pairs heard new
Asks old server pairs (Err Busy) new = StaysBusy old new
Asks old server pairs (Err NoMemory) new = FindsNoMemory (is_busy old.client ≡ false) old new

-- the client heeds a reply: it is that of its open command
abbrev pub heeds_reply : Client → ℕ → Bool
heeds_reply client seq = is_some client.call && seq == client.seq

-- it heeds answers: they can be those to the open part of its query, and a server sent them
abbrev pub heeds_answers_to : Client → Option (List (EventId × EventId)) → ℕ → ℕ → Told → Bool
heeds_answers_to client None q part told = false
heeds_answers_to client (Some pairs) q part told = (q == client.q && part == client.part) && may_answer_all part pairs told.answers

abbrev pub heeds_answers : Client → nodes.Node → ℕ → ℕ → Told → Bool
heeds_answers client Manager q part told = false
heeds_answers client (FromClient other) q part told = false
heeds_answers client (Server server) q part told = heeds_answers_to client client.asking q part told

-- it heeds a view: it is newer, and tells who answers the open part of its query
abbrev pub heeds_refer : Client → ℕ → ℕ → View → Bool
heeds_refer client q part view =
    (is_some client.asking && (q == client.q && part == client.part)) && nat_lt client.known.number view.number

-- it takes no notice of any other message
abbrev pub heeds_message : Client → nodes.Node → Message → Bool
heeds_message client from (Replied seq placed) = heeds_reply client seq
heeds_message client from (Answered q part told) = heeds_answers client from q part told
heeds_message client from (Refer q part view) = heeds_refer client q part view
heeds_message client from other = false

abbrev pub heeds : Client → Packet → Bool
heeds client packet = heeds_message client packet.from packet.message

-- a packet was taken, which a client that has failed does not
pub record Accepts (old : ClientStanding) (packet : Packet) (heard : Heard) (new : ClientStanding) : Type 0 where
  pub whole : old.failed ≡ false
  pub heeds : Heeds (client_takes old.client packet) heard new

abbrev pub Takes : ClientStanding → Packet → Result Heard OutOfMemory → ClientStanding → Type 0
Takes old packet (Ok heard) new = Accepts old packet heard new
Takes old packet (Err stop) new = FindsNoMemory (heeds old.client packet ≡ true) old new
