-- What the calls of a server do.
use Rattle.std.specs.Prelude.{ℕ, List, Bool, ◌≡◌, ◌≢◌, ◌<◌, ◌⊎◌, ◌++◌, ◌&&◌, nat_le, length, min, true, false, None, Result, Ok, Err}
use Rattle.kr_order.specs.declared.ids.ClientId.{ClientId}
use Rattle.kr_order.specs.declared.ids.EventId.{EventId}
use Rattle.kr_order.specs.declared.ids.ServerId.{ServerId}
use Rattle.kr_order.specs.declared.answer.Query.{Query}
use Rattle.kr_order.specs.declared.ids.NoMemory.{NoMemory as OutOfMemory}
use Rattle.kr_order.specs.declared.message.Node as nodes
use Rattle.kr_order.specs.declared.message.Node.TheVariants.{Manager, Client, Server as FromServer}
use Rattle.kr_order.specs.declared.message.Message.{Message}
use Rattle.kr_order.specs.declared.message.Message.TheVariants.{Request, Append, Ack, NewView, Ask}
use Rattle.kr_order.specs.declared.message.Packet.{Packet}
use Rattle.kr_order.specs.declared.view.View.{View}
use Rattle.kr_order.specs.History.{highest_seq}
use Rattle.kr_order.specs.Done.{done_of, last_of}
use Rattle.kr_protocol.specs.Reaction.{Reaction}
use Rattle.kr_protocol.specs.Server.{Server, acknowledged, server_takes, server_works, server_ticks, is_member, is_first, is_at_tail}
use Rattle.kr_protocol.specs.Server.{is_for_tail_alone, is_server, prev, next, behind, may_adopt, most_waiting}
use Rattle.chain_server.specs.declared.effects.Effects.{Effects}
use Rattle.chain_server.specs.ServerStanding.{ServerStanding}
use Rattle.chain_server.specs.Parts.{has_seq}

-- the server does as this reaction says, and tells the entries that it has newly applied
pub record Heeds (old : ServerStanding) (reaction : Reaction Server) (effects : Effects) (new : ServerStanding) : Type 0 where
  pub whole : old.failed ≡ false
  pub after : new ≡ record { server = reaction.after; failed = false }
  pub sent : effects.packets ≡ reaction.sent
  pub committed : done_of (acknowledged reaction.after) ≡ done_of (acknowledged old.server) ++ effects.committed

-- the server does as this reaction says, or has failed
abbrev pub Does : ServerStanding → Reaction Server → Result Effects OutOfMemory → ServerStanding → Type 0
Does old reaction (Ok effects) new = Heeds old reaction effects new
Does old reaction (Err stop) new = new.failed ≡ true

-- a member heeds a request of the client's last applied command, and the first member one of a command that is newer than
-- all of the client's in its log
abbrev pub HeedsRequest : Server → ClientId → ℕ → Type 0
HeedsRequest server client seq =
    (is_member server ≡ true)
    × ((has_seq (last_of client (done_of (acknowledged server))) seq ≡ true)
    ⊎ ((is_first server ≡ true) × (highest_seq client server.log < seq)))

-- a server with a view heeds a query, but for one more where so many wait
abbrev pub HeedsAsk : Server → ℕ → Type 0
HeedsAsk server part =
    (server.view ≢ None)
    × ((is_member server ≡ false) ⊎ ((is_for_tail_alone (is_at_tail server) part ≡ true) ⊎ (length server.waiting < most_waiting)))

-- what the next server says is news: more entries are acknowledged, it has more but not all, or it is a joiner that has what
-- it has to have
abbrev pub IsAckedMore : Server → ℕ → Type 0
IsAckedMore server done = server.done < min done (length server.log)

abbrev pub IsFedMore : Server → ℕ → Type 0
IsFedMore server len = (server.fed < min len (length server.log)) × (min len (length server.log) < length server.log)

abbrev pub has_caught_up : Server → ServerId → ℕ → Bool
has_caught_up server from len = is_server (behind server) from && nat_le server.need len

-- a server heeds what the next server says where it is news: it applies or sends something for that
abbrev pub HeedsAck : Server → ServerId → ℕ → ℕ → Type 0
HeedsAck server from done len =
    (is_server (next server) from ≡ true)
    × ((IsAckedMore server done ⊎ IsFedMore server len) ⊎ (has_caught_up server from len ≡ true))

-- which messages of clients, servers and the manager it heeds: it takes no notice of any other
abbrev pub HeedsClient : Server → ClientId → Message → Type 0
HeedsClient server client (Request seq command) = HeedsRequest server client seq
HeedsClient server client (Ask q part pairs) = HeedsAsk server part
HeedsClient server client other = ⊥

abbrev pub HeedsServer : Server → ServerId → Message → Type 0
HeedsServer server from (Append first entries) = is_server (prev server) from ≡ true
HeedsServer server from (Ack done len) = HeedsAck server from done len
HeedsServer server from other = ⊥

abbrev pub HeedsManager : Server → Message → Type 0
HeedsManager server (NewView view) = may_adopt server view ≡ true
HeedsManager server other = ⊥

abbrev pub HeedsFrom : Server → nodes.Node → Message → Type 0
HeedsFrom server Manager message = HeedsManager server message
HeedsFrom server (Client client) message = HeedsClient server client message
HeedsFrom server (FromServer from) message = HeedsServer server from message

abbrev pub HeedsPacket : Server → Packet → Type 0
HeedsPacket server packet = HeedsFrom server packet.from packet.message

-- the server has failed: a call found no memory, which it may where this is so, or an earlier call had found none
pub record FindsNoMemory (takes : Type 0) (old new : ServerStanding) : Type 0 where
  pub cause : (old.failed ≡ true) ⊎ takes
  pub after : new.failed ≡ true

abbrev pub Takes : ServerStanding → Packet → Result Effects OutOfMemory → ServerStanding → Type 0
Takes old packet (Ok effects) new = Heeds old (server_takes old.server packet) effects new
Takes old packet (Err stop) new = FindsNoMemory (HeedsPacket old.server packet) old new

-- the server works, or has failed, for want of memory only where a query waits
abbrev pub Works : ServerStanding → Result Effects OutOfMemory → ServerStanding → Type 0
Works old (Ok effects) new = Heeds old (server_works old.server) effects new
Works old (Err stop) new = FindsNoMemory (0 < length old.server.waiting) old new

-- the server tells the servers beside it, or has failed, for want of memory only where it has something to tell
abbrev pub Ticks : ServerStanding → Result Effects OutOfMemory → ServerStanding → Type 0
Ticks old (Ok effects) new = Heeds old (server_ticks old.server) effects new
Ticks old (Err stop) new = FindsNoMemory (0 < length (server_ticks old.server).sent) old new

-- the server goes on as this reaction says, and its packets come behind those before
pub record Adds (before : Effects) (old : ServerStanding) (reaction : Reaction Server) (effects : Effects) (new : ServerStanding)
    : Type 0 where
  pub after : new ≡ record { server = reaction.after; failed = false }
  pub packets : effects.packets ≡ before.packets ++ reaction.sent
  pub committed : effects.committed ≡ before.committed
  pub same : acknowledged reaction.after ≡ acknowledged old.server

-- it goes on so, or has failed
abbrev pub AddsTo : Effects → ServerStanding → Reaction Server → Result Effects OutOfMemory → ServerStanding → Type 0
AddsTo before old reaction (Ok effects) new = Adds before old reaction effects new
AddsTo before old reaction (Err stop) new = new.failed ≡ true

-- a client's query
abbrev pub query_of : ClientId → ℕ → ℕ → List (EventId × EventId) → Query
query_of client q part pairs = record { client = client; q = q; part = part; pairs = pairs }
