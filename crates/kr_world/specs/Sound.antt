-- What holds of every world of a run, and its code relies on: how the servers' logs, what is acknowledged, the
-- history and the packets between servers stand to each other.
use Rattle.std.specs.Prelude.{ℕ, ◌+◌, ◌-◌, ◌*◌, ◌≡◌, ◌≤◌, ◌<◌, ◌⊎◌, Bool, true, false, length}
use Rattle.std.specs.Prelude.{take, drop, List, [], All, slice_get, None, Some}
use Rattle.kr_order.specs.declared.ids.ServerId.{ServerId}
use Rattle.kr_order.specs.declared.history.Entry.{Entry}
use Rattle.kr_order.specs.declared.message.Node as nodes
use Rattle.kr_order.specs.declared.message.Node.TheVariants.{Manager as OfManager, Client as OfClient, Server as OfServer}
use Rattle.kr_order.specs.declared.message.Message.{Message}
use Rattle.kr_order.specs.declared.message.Message.TheVariants.{Append, Ack, NewView, Joined}
use Rattle.kr_order.specs.declared.message.Packet.{Packet}
use Rattle.kr_order.specs.declared.view.View.{View}
use Rattle.kr_order.specs.Prefix.{IsPrefix}
use Rattle.kr_order.specs.View.{in_chain, last_member, names}
use Rattle.script_lang.specs.declared.script.Event.{Event}
use Rattle.kr_protocol.specs.Manager.{views_of}
use Rattle.kr_protocol.specs.Evolves.{Evolves}
use Rattle.kr_protocol.specs.Server.{Server, most_entries, most_waiting, acknowledged, is_at_tail, prev, behind, view_number}
use Rattle.kr_protocol.specs.Client.{Client}
use Rattle.kr_world.specs.World.{World, first_world, server_at, is_stopped}
use Rattle.kr_world.specs.Step.{step, bag_limit}

-- a step begins with room in the bag, and sends at most one packet for each query that may wait or for each entry that
-- a log may have
abbrev pub most_packets : ℕ
most_packets = bag_limit + most_waiting + most_entries * bag_limit

-- the view that a server has adopted is one of the manager's, and names the server
pub record IsOwnView (views : List View) (server : Server) : Type 0 where
  pub view : View
  pub adopted : server.view ≡ Some view
  pub listed : slice_get views (view.number - 1) ≡ Some view
  pub named : names view server.id ≡ true

-- or it has none, and no entry
pub record IsBlank (server : Server) : Type 0 where
  pub none : server.view ≡ None
  pub log : server.log ≡ []

abbrev pub IsViewed : List View → Server → Type 0
IsViewed views server = IsOwnView views server ⊎ IsBlank server

-- what stands in the server's log stands in that of its predecessor, by the view that it has adopted
abbrev pub IsBelowPredecessor : List Server → Server → Type 0
IsBelowPredecessor servers server =
    (j : ℕ) (before : Server)
    → slice_get servers j ≡ Some before
    → prev server ≡ Some before.id
    → IsPrefix server.log before.log

-- the server at an index, among these servers and views, after so many packets
pub record IsSoundServer (views : List View) (servers : List Server) (history : List Entry) (packets i : ℕ) (server : Server) : Type 0 where
  pub id : server.id.0 ≡ i + 1
  pub own_view : IsViewed views server
  pub done : server.done ≤ length server.log
  pub fed : server.fed ≤ length server.log
  pub below : IsBelowPredecessor servers server
  -- acknowledged is history
  pub agreed : IsPrefix (acknowledged server) history
  -- a tail is full: what it has in its log is acknowledged
  pub full : is_at_tail server ≡ true → server.done ≡ length server.log
  pub waiting : length server.waiting ≤ most_waiting
  -- entries came with packets
  pub entries : length server.log ≤ most_entries * packets

-- the entries stand in the sender's log, from this place on
pub record AreInLog (servers : List Server) (from : ServerId) (first : ℕ) (entries : List Entry) : Type 0 where
  pub sender : Server
  pub from_low : 1 ≤ from.0
  pub first_low : 1 ≤ first
  pub there : slice_get servers (from.0 - 1) ≡ Some sender
  pub few : length entries ≤ most_entries
  pub stand : entries ≡ take (length entries) (drop (first - 1) sender.log)

-- the sender has acknowledged so many entries at least, and has so many in its log
pub record HasSoMany (servers : List Server) (from : ServerId) (done len : ℕ) : Type 0 where
  pub sender : Server
  pub from_low : 1 ≤ from.0
  pub there : slice_get servers (from.0 - 1) ≡ Some sender
  pub done_so_far : done ≤ sender.done
  pub len_so_far : len ≤ length sender.log

abbrev pub IsSoundAppend : List Server → nodes.Node → ℕ → List Entry → Type 0
IsSoundAppend servers OfManager first entries = Unit {0}
IsSoundAppend servers (OfClient client) first entries = Unit {0}
IsSoundAppend servers (OfServer server) first entries = AreInLog servers server first entries

abbrev pub IsSoundAck : List Server → nodes.Node → ℕ → ℕ → Type 0
IsSoundAck servers OfManager done len = Unit {0}
IsSoundAck servers (OfClient client) done len = Unit {0}
IsSoundAck servers (OfServer server) done len = HasSoMany servers server done len

-- the server has adopted a view, or a newer one, by which it is the last member and that one joins behind it
pub record WasBeside (views : List View) (server : Server) (joiner : ServerId) : Type 0 where
  pub heard : View
  pub listed : slice_get views (heard.number - 1) ≡ Some heard
  pub no_newer : heard.number ≤ view_number server.view
  pub last : last_member heard ≡ Some server.id
  pub joins : heard.joiner ≡ Some joiner

-- the sender saw that this one joins behind it; as long as it goes by such a view, the joiner has what it has to have
pub record HasJoined (views : List View) (servers : List Server) (from joiner : ServerId) : Type 0 where
  pub sender : Server
  pub from_low : 1 ≤ from.0
  pub there : slice_get servers (from.0 - 1) ≡ Some sender
  pub beside : WasBeside views sender joiner
  pub covered :
      (other : Server)
      → slice_get servers (joiner.0 - 1) ≡ Some other
      → behind sender ≡ Some joiner
      → sender.need ≤ length other.log

abbrev pub IsSoundJoined : List View → List Server → nodes.Node → ServerId → Type 0
IsSoundJoined views servers OfManager joiner = Unit {0}
IsSoundJoined views servers (OfClient client) joiner = Unit {0}
IsSoundJoined views servers (OfServer server) joiner = HasJoined views servers server joiner

abbrev pub IsSoundMessage : List View → List Server → nodes.Node → Message → Type 0
IsSoundMessage views servers from (Append first entries) = IsSoundAppend servers from first entries
IsSoundMessage views servers from (Ack done len) = IsSoundAck servers from done len
IsSoundMessage views servers from (NewView view) = slice_get views (view.number - 1) ≡ Some view
IsSoundMessage views servers from (Joined joiner) = IsSoundJoined views servers from joiner
IsSoundMessage views servers from other = Unit {0}

-- what a server says to another is true of its log, whenever it was sent, and the views in packets are the manager's
abbrev pub IsSoundPacket : List View → List Server → Packet → Type 0
IsSoundPacket views servers packet = IsSoundMessage views servers packet.from packet.message

-- the last holds the history: it stands in the log of the last member of this view, the manager's current one
abbrev pub LastHolds : View → List Server → List Entry → Type 0
LastHolds current servers history =
    (last : ServerId) (server : Server)
    → last_member current ≡ Some last
    → slice_get servers (last.0 - 1) ≡ Some server
    → IsPrefix history server.log

-- old tails know: who is the tail by some view is the last member of the current one too, or has stopped, or has adopted
-- a later view than that
abbrev pub OldTailsKnow : World → Type 0
OldTailsKnow world =
    (k : ℕ) (view : View) (tail : ServerId) (server : Server)
    → slice_get (views_of world.manager) k ≡ Some view
    → view.joiner ≡ None
    → last_member view ≡ Some tail
    → server_at world tail ≡ Some server
    → (last_member world.manager.current ≡ Some tail) ⊎ ((is_stopped world tail ≡ true) ⊎ (view.number < view_number server.view))

-- need covers the history: as long as the last member goes by a view with the current joiner, the joiner has to have all
-- that is history
abbrev pub NeedCovers : World → Type 0
NeedCovers world =
    (joiner last : ServerId) (server : Server)
    → world.manager.current.joiner ≡ Some joiner
    → last_member world.manager.current ≡ Some last
    → server_at world last ≡ Some server
    → behind server ≡ Some joiner
    → length world.history ≤ server.need

-- a member of the view has not stopped
pub record SomeMemberRuns (stopped : ServerId → Bool) (view : View) : Type 0 where
  pub member : ServerId
  pub in_it : in_chain view member ≡ true
  pub runs : stopped member ≡ false

pub record IsSound (world : World) : Type 0 where
  -- the manager's views came of one another, and name the servers that there are
  pub evolves : Evolves (is_stopped world) world.manager
  pub made : world.manager.made ≡ length world.servers
  pub few : length world.servers ≤ 64
  pub served : SomeMemberRuns (is_stopped world) world.manager.current
  pub servers :
      (i : ℕ) (server : Server)
      → slice_get world.servers i ≡ Some server
      → IsSoundServer (views_of world.manager) world.servers world.history (length world.bag) i server
  pub last_holds : LastHolds world.manager.current world.servers world.history
  pub old_tails : OldTailsKnow world
  pub need_covers : NeedCovers world
  pub packets : All (IsSoundPacket (views_of world.manager) world.servers) world.bag
  -- each command had a packet of its own
  pub calls : All (λ client. client.seq ≤ length world.bag) world.clients
  pub bag : length world.bag ≤ most_packets
  -- the marks stand beside the servers and the packets
  pub stopped : length world.stopped ≡ length world.servers
  pub lost : length world.lost ≡ length world.bag
  pub delivered : length world.delivered ≡ length world.bag

-- the first world is sound, and every step keeps a world so
pub record WorldsAreSound : Type 0 where
  pub first : (servers clients : ℕ) → 1 ≤ servers → servers ≤ 64 → IsSound (first_world servers clients)
  pub later : (world : World) (event : Event) → IsSound world → IsSound (step world event).after

-- each client has begun so many queries at the most
abbrev pub HaveBegun : ℕ → List Client → Type 0
HaveBegun n clients = All (λ client. client.q ≤ n) clients

-- no step begins more than one query of a client
abbrev pub QueriesAreCounted : Type 0
QueriesAreCounted =
    (n : ℕ) (world : World) (event : Event) → HaveBegun n world.clients → HaveBegun (n + 1) (step world event).after.clients
