-- What an event does to the world: why it is refused, or else what it does.
use Rattle.std.specs.Prelude.{ℕ, ◌-◌, List, [], ◌∷◌, ◌++◌, length, nat_le, ◌&&◌, ◌||◌, not, true, false}
use Rattle.std.specs.Prelude.{is_some, if◌then◌else◌, slice_set, map, Bool, Option, None, Some}
use Rattle.kr_order.specs.declared.ids.ClientId.{ClientId}
use Rattle.kr_order.specs.declared.ids.ServerId.{ServerId}
use Rattle.kr_order.specs.declared.history.Command.{Command}
use Rattle.kr_order.specs.declared.history.ToldReply.{ToldReply}
use Rattle.kr_order.specs.declared.ids.EventId.{EventId}
use Rattle.kr_order.specs.declared.answer.ToldPart.{ToldPart}
use Rattle.kr_order.specs.declared.message.Node as nodes
use Rattle.kr_order.specs.declared.message.Node.TheVariants.{Manager as ToManager, Client as ToClient, Server as ToServer}
use Rattle.kr_order.specs.declared.message.Message.{Message}
use Rattle.kr_order.specs.declared.message.Message.TheVariants.{Joined}
use Rattle.kr_order.specs.declared.message.Packet.{Packet}
use Rattle.kr_protocol.specs.Reaction.{Reaction}
use Rattle.kr_protocol.specs.Server.{Server, newcomer, acknowledged, view_number, server_takes, server_works, server_ticks}
use Rattle.kr_protocol.specs.Client.{Client, Hearing, is_busy, unheard, begins, asks, retries, learns, client_takes}
use Rattle.script_lang.specs.declared.script.Event.{Event}
use Rattle.script_lang.specs.declared.script.Event.TheVariants.{Call, Query, Retry, Deliver, Lose, Tick, Work, Stop, Notice, Show, Join}
use Rattle.script_lang.specs.declared.script.Event.TheVariants.{Round, Learn}
use Rattle.kr_order.specs.View.{in_chain, names}
use Rattle.kr_protocol.specs.Manager.{Manager, members_but, may_promote, next_server, removes, adds, promotes, announces}
use Rattle.kr_order.specs.Held.{held_events, held_pairs}
use Rattle.kr_world.specs.declared.shown.Shown.{Shown}
use Rattle.kr_world.specs.declared.refusal.Refusal.{Refusal}
use Rattle.kr_world.specs.declared.refusal.Refusal.TheVariants.{NoSuchClient, NoSuchServer, NoSuchPacket, Stopped, Busy, NothingOpen}
use Rattle.kr_world.specs.declared.refusal.Refusal.TheVariants.{Lost, LastServer, NotStopped, NotMember, JoinerThere, ServersSpent}
use Rattle.kr_world.specs.declared.refusal.Refusal.TheVariants.{BagFull}
use Rattle.kr_order.specs.Marks.{is_marked, marked}
use Rattle.kr_world.specs.World.{World, server_at, client_at, packet_at, is_stopped, has_stopped, with_packets, bytes_of, longest}

-- from this many packets on, and from this many bytes of packets on, no step that may send is taken
abbrev pub bag_limit : ℕ
bag_limit = 65000

abbrev pub byte_limit : ℕ
byte_limit = 268435456

abbrev pub is_full : World → Bool
is_full world = nat_le bag_limit (length world.bag) || nat_le byte_limit (bytes_of world.bag)

-- a step that may send is refused where the bag is full
abbrev pub if_full : World → Option Refusal
if_full world = if is_full world then Some BagFull else None

abbrev pub call_refusal : World → Option Client → Option Refusal
call_refusal world None = Some NoSuchClient
call_refusal world (Some client) = if is_busy client then Some Busy else if_full world

-- a server that is to do something has to be there and must not have stopped; then what else refuses it
abbrev pub server_refusal : World → ServerId → Option Server → Option Refusal → Option Refusal
server_refusal world id None rest = Some NoSuchServer
server_refusal world id (Some server) rest = if is_stopped world id then Some Stopped else rest

-- a query is refused as a call is, but that the server has to be there too
abbrev pub query_refusal : World → ServerId → Option Client → Option Server → Option Refusal
query_refusal world id None server = Some NoSuchClient
query_refusal world id (Some client) server = server_refusal world id server (call_refusal world (Some client))

-- there has to be an open call to be tried again
abbrev pub retry_refusal : World → ServerId → Option Client → Option Server → Option Refusal
retry_refusal world id None server = Some NoSuchClient
retry_refusal world id (Some client) server = server_refusal world id server (if is_busy client then if_full world else Some NothingOpen)

-- a server works and ticks where it is there and has not stopped
abbrev pub turn_refusal : World → ServerId → Option Server → Option Refusal
turn_refusal world id server = server_refusal world id server (if_full world)

-- a packet is not delivered to a server that has stopped, nor where it was lost
abbrev pub arrival_refusal : World → ℕ → nodes.Node → Option Refusal
arrival_refusal world k to =
    if has_stopped world to then Some Stopped else if is_marked world.lost k then Some Lost else if_full world

abbrev pub deliver_refusal : World → ℕ → Option Packet → Option Refusal
deliver_refusal world k None = Some NoSuchPacket
deliver_refusal world k (Some packet) = arrival_refusal world k packet.to

-- nor is it lost again
abbrev pub loss_refusal : World → ℕ → Option Refusal
loss_refusal world k = if is_marked world.lost k then Some Lost else None

abbrev pub lose_refusal : World → ℕ → Option Packet → Option Refusal
lose_refusal world k None = Some NoSuchPacket
lose_refusal world k (Some packet) = loss_refusal world k

-- the manager's turn, or a server's
abbrev pub tick_refusal : World → Option ServerId → Option Refusal
tick_refusal world None = if_full world
tick_refusal world (Some server) = turn_refusal world server (server_at world server)

-- all of these have stopped
abbrev pub have_stopped : World → List ServerId → Bool
have_stopped world [] = true
have_stopped world (id ∷ ids) = is_stopped world id && have_stopped world ids

-- the server is in the chain of the current view, and all other members of it have stopped
abbrev pub is_last_running : World → ServerId → Bool
is_last_running world id =
    in_chain world.manager.current id && have_stopped world (members_but world.manager.current.chain id)

-- the last server that runs does not stop
abbrev pub stop_refusal : World → ServerId → Option Server → Option Refusal
stop_refusal world id None = Some NoSuchServer
stop_refusal world id (Some server) =
    if is_stopped world id then Some Stopped else if is_last_running world server.id then Some LastServer else None

-- the manager hears of a server that has stopped and that its view names
abbrev pub notice_refusal : World → ServerId → Option Server → Option Refusal
notice_refusal world id None = Some NoSuchServer
notice_refusal world id (Some server) =
    if not (is_stopped world id) then Some NotStopped
    else if not (names world.manager.current server.id) then Some NotMember
    else if_full world

-- so many servers are made at the most
abbrev pub most_servers : ℕ
most_servers = 64

-- one server joins at a time
abbrev pub join_refusal : World → Option Refusal
join_refusal world =
    if is_some world.manager.current.joiner then Some JoinerThere
    else if nat_le most_servers world.manager.made then Some ServersSpent
    else if_full world

-- a server that has stopped shows nothing
abbrev pub show_refusal : World → ServerId → Option Server → Option Refusal
show_refusal world id server = server_refusal world id server None

abbrev pub learn_refusal : Option Client → Option Refusal
learn_refusal None = Some NoSuchClient
learn_refusal (Some client) = None

-- why the event is refused in this world, if it is. A round is refused as a whole only where the bag is full at its start.
abbrev pub refusal_of : World → Event → Option Refusal
refusal_of world (Call client command) = call_refusal world (client_at world client)
refusal_of world (Query client server pairs) = query_refusal world server (client_at world client) (server_at world server)
refusal_of world (Retry client server) = retry_refusal world server (client_at world client) (server_at world server)
refusal_of world (Deliver k) = deliver_refusal world k (packet_at world k)
refusal_of world (Lose k) = lose_refusal world k (packet_at world k)
refusal_of world (Tick who) = tick_refusal world who
refusal_of world (Work server workers) = turn_refusal world server (server_at world server)
refusal_of world (Stop server) = stop_refusal world server (server_at world server)
refusal_of world (Notice server) = notice_refusal world server (server_at world server)
refusal_of world (Show server) = show_refusal world server (server_at world server)
refusal_of world Join = join_refusal world
refusal_of world Round = if_full world
refusal_of world (Learn client) = learn_refusal (client_at world client)

-- a reply that a client was told in a step
pub record Told : Type 0 where
  pub client : ClientId
  pub reply : ToldReply

-- a part of its query that a client was told in a step
pub record Part : Type 0 where
  pub client : ClientId
  pub part : ToldPart

-- a step: the world afterwards, what was told, what was shown of a server, and why it was refused
pub record Outcome : Type 0 where
  pub after : World
  pub told : List Told
  pub parts : List Part
  pub shown : Option Shown
  pub refused : Option Refusal

abbrev pub quiet : World → Outcome
quiet world = record { after = world; told = []; parts = []; shown = None; refused = None }

abbrev pub refuses : World → Refusal → Outcome
refuses world why = record (quiet world) { refused = Some why }

-- the client's call: its node afterwards, and its request in the bag
abbrev pub client_sends : World → ClientId → Reaction Client → Outcome
client_sends world client reaction =
    quiet (with_packets (record world { clients = slice_set world.clients (client.0 - 1) reaction.after }) reaction.sent)

abbrev pub client_calls : World → ClientId → Command → Option Client → Outcome
client_calls world client command None = quiet world
client_calls world client command (Some before) = client_sends world client (begins before command)

-- the client's open call, once more in the bag
abbrev pub client_retries : World → ServerId → Option Client → Outcome
client_retries world server None = quiet world
client_retries world server (Some client) = quiet (with_packets world (retries client server))

abbrev pub told_to : ClientId → Option ToldReply → List Told
told_to client None = []
told_to client (Some reply) = record { client = client; reply = reply } ∷ []

abbrev pub parts_to : ClientId → List ToldPart → List Part
parts_to client parts = map (λ part. record { client = client; part = part }) parts

-- what a client does: its node afterwards, its packets in the bag, and what it is told
abbrev pub client_hears : World → ClientId → Hearing → Outcome
client_hears world client hearing =
    record (client_sends world client (record { after = hearing.after; sent = hearing.sent }))
    { told = told_to client hearing.told; parts = parts_to client hearing.parts }

-- the client's query: what it remembers is told at once
abbrev pub client_asks : World → ClientId → ServerId → List (EventId × EventId) → Option Client → Outcome
client_asks world client server pairs None = quiet world
client_asks world client server pairs (Some before) = client_hears world client (asks before server pairs)

-- a server's reaction: its node afterwards, its packets in the bag, and the history with what it has applied
abbrev pub server_reacts : World → ServerId → Reaction Server → Outcome
server_reacts world server reaction =
    let servers = slice_set world.servers (server.0 - 1) reaction.after in
    quiet (with_packets (record world { servers = servers; history = longest world.history servers }) reaction.sent)

abbrev pub arrives_at_client : World → ClientId → Packet → Option Client → Outcome
arrives_at_client world id packet None = quiet world
arrives_at_client world id packet (Some client) = client_hears world id (client_takes client packet)

abbrev pub arrives_at_server : World → ServerId → Packet → Option Server → Outcome
arrives_at_server world id packet None = quiet world
arrives_at_server world id packet (Some server) = server_reacts world id (server_takes server packet)

-- the manager goes on, and tells all whom its current view names of it
abbrev pub manager_tells : World → Manager → Outcome
manager_tells world manager = quiet (with_packets (record world { manager = manager }) (announces manager.current))

-- the last member says that the joiner has caught up: it becomes a member
abbrev pub joined_at_manager : World → ServerId → ServerId → Outcome
joined_at_manager world from joiner =
    if may_promote world.manager.current from joiner then manager_tells world (promotes world.manager joiner) else quiet world

abbrev pub told_by_server : World → ServerId → Message → Outcome
told_by_server world from (Joined joiner) = joined_at_manager world from joiner
told_by_server world from other = quiet world

abbrev pub arrives_at_manager : World → nodes.Node → Message → Outcome
arrives_at_manager world ToManager message = quiet world
arrives_at_manager world (ToClient client) message = quiet world
arrives_at_manager world (ToServer server) message = told_by_server world server message

abbrev pub arrives : World → nodes.Node → Packet → Outcome
arrives world ToManager packet = arrives_at_manager world packet.from packet.message
arrives world (ToClient client) packet = arrives_at_client world client packet (client_at world client)
arrives world (ToServer server) packet = arrives_at_server world server packet (server_at world server)

-- the addressee takes the packet, which is marked
abbrev pub delivers : World → ℕ → Option Packet → Outcome
delivers world k None = quiet world
delivers world k (Some packet) = arrives (record world { delivered = marked world.delivered k }) packet.to packet

-- the packet is lost
abbrev pub loses : World → ℕ → Outcome
loses world k = quiet (record world { lost = marked world.lost k })

abbrev pub works : World → ServerId → Option Server → Outcome
works world id None = quiet world
works world id (Some server) = server_reacts world id (server_works server)

abbrev pub ticks_at : World → ServerId → Option Server → Outcome
ticks_at world id None = quiet world
ticks_at world id (Some server) = server_reacts world id (server_ticks server)

abbrev pub ticks : World → Option ServerId → Outcome
ticks world None = manager_tells world world.manager
ticks world (Some server) = ticks_at world server (server_at world server)

-- the server has stopped, for good
abbrev pub stops : World → ServerId → Outcome
stops world server = quiet (record world { stopped = marked world.stopped server.0 })

-- the manager makes the next view, without the server
abbrev pub notices : World → Option Server → Outcome
notices world None = quiet world
notices world (Some server) = manager_tells world (removes world.manager server.id)

-- a new server joins: it has the next number
abbrev pub joins : World → Outcome
joins world =
    let server = newcomer (next_server world.manager) in
    manager_tells (record world { servers = world.servers ++ server ∷ []; stopped = world.stopped ++ false ∷ [] }) (adds world.manager)

-- the client knows the current view
abbrev pub learns_view : World → ClientId → Option Client → Outcome
learns_view world id None = quiet world
learns_view world id (Some client) = client_hears world id (unheard (learns client world.manager.current))

-- what is shown of a server: of the order, what its acknowledged prefix holds
abbrev pub shown_of : ServerId → Server → Shown
shown_of id server =
    record {
      server = id;
      view = view_number server.view;
      log = length server.log;
      done = server.done;
      held = length (held_events (acknowledged server));
      pairs = length (held_pairs (acknowledged server));
      waiting = length server.waiting;
    }

abbrev pub shows : World → ServerId → Option Server → Outcome
shows world id None = quiet world
shows world id (Some server) = record (quiet world) { shown = Some (shown_of id server) }

-- what an event does that is not refused. A round that is not refused is never one step: its plain steps are done in its
-- place.
abbrev pub act : World → Event → Outcome
act world (Call client command) = client_calls world client command (client_at world client)
act world (Query client server pairs) = client_asks world client server pairs (client_at world client)
act world (Retry client server) = client_retries world server (client_at world client)
act world (Deliver k) = delivers world k (packet_at world k)
act world (Lose k) = loses world k
act world (Tick who) = ticks world who
act world (Work server workers) = works world server (server_at world server)
act world (Stop server) = stops world server
act world (Notice server) = notices world (server_at world server)
act world (Show server) = shows world server (server_at world server)
act world Join = joins world
act world Round = quiet world
act world (Learn client) = learns_view world client (client_at world client)

abbrev pub unless : World → Option Refusal → Outcome → Outcome
unless world None outcome = outcome
unless world (Some why) outcome = refuses world why

-- what an event does
abbrev pub step : World → Event → Outcome
step world event = unless world (refusal_of world event) (act world event)
