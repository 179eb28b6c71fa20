-- What a step sends has spellings where all packets do after it.
use Rattle.std.proofs.Common.{◌≡◌, ◌-◌, List, [], ◌∷◌, ◌++◌, sym, subst}
use Rattle.std.specs.Prelude.{All, slice_get, Some}
use Rattle.std.proofs.lemmas.List.Elements.{All-head, All-tail}
use Rattle.kr_order.specs.declared.ids.ClientId.{ClientId}
use Rattle.kr_order.specs.declared.ids.ServerId.{ServerId}
use Rattle.kr_order.specs.declared.ids.EventId.{EventId}
use Rattle.kr_order.specs.declared.history.Command.{Command}
use Rattle.kr_order.specs.declared.message.Node.{Node}
use Rattle.kr_order.specs.declared.message.Node.TheVariants.{Server}
use Rattle.kr_order.specs.declared.message.Message.{Message}
use Rattle.kr_order.specs.declared.message.Message.TheVariants.{Joined}
use Rattle.kr_order.specs.declared.message.Packet.{Packet}
use Rattle.kr_protocol.specs.Client.{begins, asks, retries, client_takes}
use Rattle.kr_protocol.specs.Server.{server_takes, server_works, server_ticks}
use Rattle.kr_wire.specs.Valid.{IsPacket}
use Rattle.client_session.specs.declared.client.Heard.{Heard}
use Rattle.client_session.specs.ClientStanding.{ClientStanding}
use Rattle.client_session.specs.Calls.{Opens, OpensQuery, Accepts, TriesAgain}
use Rattle.chain_server.specs.declared.effects.Effects.{Effects}
use Rattle.chain_server.specs.ServerStanding.{ServerStanding}
use Rattle.chain_server.specs.Calls.{Heeds as ServerHeeds}
use Rattle.kr_world.specs.World.{World, client_at, server_at}
use Rattle.kr_world.specs.Step.{client_calls, client_asks, client_retries, arrives_at_client, arrives_at_server, arrives_at_manager, joined_at_manager, works, ticks_at}
use Rattle.cluster_parts.specs.declared.parts.Parts.{Parts}
use Rattle.cluster_parts.specs.PartsStanding.{world_of}
use Rattle.cluster_sim.proofs.PartsLemmas.{client_there, server_there}

last_all : {item : Type 0} (P : item → Type 0) (xs ys : List item) → All P (xs ++ ys) → All P ys
last_all P [] ys all = all
last_all P (x ∷ xs) ys all = last_all P xs ys (All-tail P x (xs ++ ys) all)

-- what came behind the bag
pub sent_fit : (bag sent packets : List Packet) → packets ≡ sent → All IsPacket (bag ++ sent) → All IsPacket packets
sent_fit bag sent packets same fit = subst (All IsPacket) (sym same) (last_all IsPacket bag sent fit)

one_fits : (bag sent : List Packet) (packet : Packet) → sent ≡ packet ∷ [] → All IsPacket (bag ++ sent) → IsPacket packet
one_fits bag sent packet same fit =
    let one : All IsPacket (packet ∷ []) = sent_fit bag sent (packet ∷ []) (sym same) fit in All-head IsPacket packet [] one

-- the request of a client's command
pub call_fits : (parts : Parts) (client : ClientId) (command : Command) (old new : ClientStanding) (packet : Packet) → slice_get parts.clients.items (client.0 - 1) ≡ Some old → Opens old command packet new
    → All IsPacket (client_calls (world_of parts) client command (client_at (world_of parts) client)).after.bag → IsPacket packet
call_fits parts client command old new packet there opens fit =
    one_fits parts.bag.packets (begins old.client command).sent packet opens.sent (subst (λ found. All IsPacket (client_calls (world_of parts) client command found).after.bag) (client_there parts client old there) fit)

-- a client's question
pub question_fits : (parts : Parts) (client : ClientId) (server : ServerId) (pairs : List (EventId × EventId)) (old new : ClientStanding) (heard : Heard) → slice_get parts.clients.items (client.0 - 1) ≡ Some old → OpensQuery old server pairs heard new
    → All IsPacket (client_asks (world_of parts) client server pairs (client_at (world_of parts) client)).after.bag → All IsPacket heard.packets
question_fits parts client server pairs old new heard there opens fit =
    sent_fit parts.bag.packets (asks old.client server pairs).sent heard.packets opens.heeds.sent (subst (λ found. All IsPacket (client_asks (world_of parts) client server pairs found).after.bag) (client_there parts client old there) fit)

-- its call once more
pub retry_fits : (parts : Parts) (client : ClientId) (server : ServerId) (node : ClientStanding) (packet : Packet) → slice_get parts.clients.items (client.0 - 1) ≡ Some node → TriesAgain node server packet
    → All IsPacket (client_retries (world_of parts) server (client_at (world_of parts) client)).after.bag → IsPacket packet
retry_fits parts client server node packet there tries fit =
    one_fits parts.bag.packets (retries node.client server) packet tries.sent (subst (λ found. All IsPacket (client_retries (world_of parts) server found).after.bag) (client_there parts client node there) fit)

-- what it sends once it has heard a packet
pub heard_fits : (parts : Parts) (client : ClientId) (old new : ClientStanding) (packet : Packet) (heard : Heard) → slice_get parts.clients.items (client.0 - 1) ≡ Some old → Accepts old packet heard new
    → All IsPacket (arrives_at_client (world_of parts) client packet (client_at (world_of parts) client)).after.bag → All IsPacket heard.packets
heard_fits parts client old new packet heard there accepts fit =
    sent_fit parts.bag.packets (client_takes old.client packet).sent heard.packets accepts.heeds.sent (subst (λ found. All IsPacket (arrives_at_client (world_of parts) client packet found).after.bag) (client_there parts client old there) fit)

-- what a server sends once it has taken a packet, when it works, and when it ticks
pub taken_fit : (parts : Parts) (server : ServerId) (old new : ServerStanding) (packet : Packet) (effects : Effects) → slice_get parts.servers.items (server.0 - 1) ≡ Some old → ServerHeeds old (server_takes old.server packet) effects new
    → All IsPacket (arrives_at_server (world_of parts) server packet (server_at (world_of parts) server)).after.bag → All IsPacket effects.packets
taken_fit parts server old new packet effects there heeds fit =
    sent_fit parts.bag.packets (server_takes old.server packet).sent effects.packets heeds.sent (subst (λ found. All IsPacket (arrives_at_server (world_of parts) server packet found).after.bag) (server_there parts server old there) fit)

pub work_fits : (parts : Parts) (server : ServerId) (old new : ServerStanding) (effects : Effects) → slice_get parts.servers.items (server.0 - 1) ≡ Some old → ServerHeeds old (server_works old.server) effects new
    → All IsPacket (works (world_of parts) server (server_at (world_of parts) server)).after.bag → All IsPacket effects.packets
work_fits parts server old new effects there heeds fit =
    sent_fit parts.bag.packets (server_works old.server).sent effects.packets heeds.sent (subst (λ found. All IsPacket (works (world_of parts) server found).after.bag) (server_there parts server old there) fit)

pub tick_fits : (parts : Parts) (server : ServerId) (old new : ServerStanding) (effects : Effects) → slice_get parts.servers.items (server.0 - 1) ≡ Some old → ServerHeeds old (server_ticks old.server) effects new
    → All IsPacket (ticks_at (world_of parts) server (server_at (world_of parts) server)).after.bag → All IsPacket effects.packets
tick_fits parts server old new effects there heeds fit =
    sent_fit parts.bag.packets (server_ticks old.server).sent effects.packets heeds.sent (subst (λ found. All IsPacket (ticks_at (world_of parts) server found).after.bag) (server_there parts server old there) fit)

-- what the manager tells once it has heard of a joiner
pub joined_fits : (world : World) (sender : Node) (message : Message) (from joiner : ServerId) → sender ≡ Server from → message ≡ Joined joiner
    → All IsPacket (arrives_at_manager world sender message).after.bag → All IsPacket (joined_at_manager world from joiner).after.bag
joined_fits world sender message from joiner goes says fit =
    subst (λ m. All IsPacket (arrives_at_manager world (Server from) m).after.bag) says (subst (λ s. All IsPacket (arrives_at_manager world s message).after.bag) goes fit)
