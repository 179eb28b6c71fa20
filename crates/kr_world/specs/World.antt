-- The world of a run: all nodes, all packets ever sent, and the history.
use Rattle.std.specs.Prelude.{ℕ, ◌-◌, Bool, false, List, [], ◌∷◌, ◌++◌, length, map, nat_lt, if◌then◌else◌, slice_get, sum_by, Option}
use Rattle.kr_order.specs.declared.ids.ClientId.{ClientId}
use Rattle.kr_order.specs.declared.ids.ServerId.{ServerId}
use Rattle.kr_order.specs.declared.history.Entry.{Entry}
use Rattle.kr_order.specs.declared.message.Packet.{Packet}
use Rattle.kr_order.specs.declared.message.Node as nodes
use Rattle.kr_order.specs.declared.message.Node.TheVariants.{Manager as AtManager, Client as AtClient, Server as AtServer}
use Rattle.kr_order.specs.Size.{packet_size}
use Rattle.kr_order.specs.Marks.{is_marked}
use Rattle.kr_order.specs.View.{first_view}
use Rattle.kr_order.specs.Numbers.{numbers_to}
use Rattle.kr_protocol.specs.Manager.{Manager, new_manager}
use Rattle.kr_protocol.specs.Server.{Server, founder, acknowledged}
use Rattle.kr_protocol.specs.Client.{Client, new_client}

-- server s is at index s - 1, client c at c - 1, packet k at k - 1; beside the servers stands which of them have stopped,
-- beside the packets which were lost and which were delivered
pub record World : Type 0 where
  pub manager : Manager
  pub servers : List Server
  pub stopped : List Bool
  pub clients : List Client
  pub bag : List Packet
  pub lost : List Bool
  pub delivered : List Bool
  pub history : List Entry

-- the world of so many servers and clients, before the first step
abbrev pub first_world : ℕ → ℕ → World
first_world servers clients =
    record {
      manager = new_manager servers;
      servers = map (λ n. founder (first_view servers) (record { 0 = n })) (numbers_to servers);
      stopped = map (λ n. false) (numbers_to servers);
      clients = map (λ n. new_client (first_view servers) (record { 0 = n })) (numbers_to clients);
      bag = [];
      lost = [];
      delivered = [];
      history = [];
    }

abbrev pub server_at : World → ServerId → Option Server
server_at world server = slice_get world.servers (server.0 - 1)

abbrev pub client_at : World → ClientId → Option Client
client_at world client = slice_get world.clients (client.0 - 1)

abbrev pub packet_at : World → ℕ → Option Packet
packet_at world k = slice_get world.bag (k - 1)

-- the server has stopped
abbrev pub is_stopped : World → ServerId → Bool
is_stopped world server = is_marked world.stopped server.0

-- the node has stopped; the manager and clients never do
abbrev pub has_stopped : World → nodes.Node → Bool
has_stopped world AtManager = false
has_stopped world (AtClient client) = false
has_stopped world (AtServer server) = is_stopped world server

-- the packets go into the bag, and are neither lost nor delivered
abbrev pub with_packets : World → List Packet → World
with_packets world packets =
    record world {
      bag = world.bag ++ packets;
      lost = world.lost ++ map (λ packet. false) packets;
      delivered = world.delivered ++ map (λ packet. false) packets;
    }

-- how many bytes the packets take
abbrev pub bytes_of : List Packet → ℕ
bytes_of bag = sum_by packet_size bag

-- the longer of two histories, the first where they are of one length
abbrev pub longer : List Entry → List Entry → List Entry
longer history log = if nat_lt (length history) (length log) then log else history

-- the longest of a history and the servers' acknowledged prefixes
abbrev pub longest : List Entry → List Server → List Entry
longest history [] = history
longest history (server ∷ servers) = longest (longer history (acknowledged server)) servers
