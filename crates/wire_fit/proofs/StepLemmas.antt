-- What an event does to a spoken world leaves it spoken.
use Rattle.std.proofs.Common.{◌≡◌, ℕ, ◌+◌, ◌-◌, ◌^◌, ◌≤◌, Bool, true, false, cond, List, [], ◌∷◌, ◌++◌, length, refl, sym, subst, arith, inl, inr}
use Rattle.std.specs.Prelude.{Option, None, Some, All}
use Rattle.std.specs.Option.{option_to_list}
use Rattle.std.proofs.lemmas.List.{length-append, length-map}
use Rattle.std.proofs.lemmas.List.Elements.{All-nil, All-append, All-set, All-push, All-weaker}
use Rattle.std.proofs.lemmas.Option.{slice_get_within}
use Rattle.kr_order.specs.declared.ids.ClientId.{ClientId}
use Rattle.kr_order.specs.declared.ids.ServerId.{ServerId}
use Rattle.kr_order.specs.declared.ids.EventId.{EventId}
use Rattle.kr_order.specs.declared.batch.Pair.{Pair}
use Rattle.kr_order.specs.declared.history.Command.{Command}
use Rattle.kr_order.specs.declared.history.Command.TheVariants.{Create, Assign, Acquire, Release}
use Rattle.kr_order.specs.declared.message.Node as nodes
use Rattle.kr_order.specs.declared.message.Node.TheVariants.{Manager as ToManager, Client as ToClient, Server as ToServer}
use Rattle.kr_order.specs.declared.message.Message.{Message}
use Rattle.kr_order.specs.declared.message.Message.TheVariants.{Joined}
use Rattle.kr_order.specs.declared.message.Packet.{Packet}
use Rattle.kr_protocol.specs.Reaction.{Reaction}
use Rattle.kr_protocol.specs.Manager.{Manager, may_promote, next_server, removes, adds, promotes, views_of, named_by, announces, view_packet}
use Rattle.kr_protocol.specs.Server.{Server, newcomer, server_takes, server_works, server_ticks}
use Rattle.kr_protocol.specs.Client.{Client, Hearing, begins, asks, retries, learns, unheard, client_takes}
use Rattle.script_lang.specs.declared.script.Event.{Event}
use Rattle.script_lang.specs.declared.script.Event.TheVariants.{Call, Query, Retry, Deliver, Lose, Tick, Work, Stop, Notice, Show, Join, Round, Learn}
use Rattle.script_lang.specs.Event as lines
use Rattle.kr_order.specs.Marks.{marked}
use Rattle.kr_world.specs.World.{World, server_at, client_at, packet_at, is_stopped}
use Rattle.kr_world.specs.Step.{quiet, client_sends, client_calls, client_retries, client_hears, client_asks, server_reacts, arrives_at_client, arrives_at_server, manager_tells, joined_at_manager, told_by_server, arrives_at_manager, arrives, delivers, works, ticks_at, ticks, notices, joins, learns_view, shows, act}
use Rattle.kr_world.specs.Sound.{IsSound, IsViewed, HaveBegun, most_packets}
use Rattle.kr_world.proofs.steps.StepLemmas.{at_index}
use Rattle.kr_world.proofs.steps.BagLemmas.{delivered_sound}
use Rattle.kr_wire.specs.Valid.{IsId, IsNumber, IsPair, IsAskedPair, IsCommand, IsEntry, IsView, IsPacket}
use Rattle.wire_fit.specs.Spoken.{IsSpokenQuery, IsSpokenServer, IsSpokenOpen, IsSpokenClient, IsSpoken}
use Rattle.wire_fit.proofs.ViewLemmas.{IsServerId, current_fits, views_fit}
use Rattle.wire_fit.proofs.SendLemmas.{IsFit, none_fits, announces_fit}
use Rattle.wire_fit.proofs.ServerLemmas.{IsFitReaction, HasRoom, takes_fit, ticks_fit, works_fit}
use Rattle.wire_fit.proofs.ClientLemmas.{IsFitClient, IsFitHearing, AreFewPairs, begun_fits, request_sent, retry_sent, query_fits, packet_heard, learnt_fits}

-- ---- what a line gives can be spelt

number_of : (n : ℕ) → lines.IsNumber n → IsId n
number_of n is =
    let low = is.low in
    let high = is.high in
    record { above = omega arith; fits = omega arith }

event_number_of : (n : ℕ) → lines.IsEventNumber n → IsNumber n
event_number_of n is =
    let low = is.low in
    let high = is.high in
    record { above = omega arith; fits = omega arith }

pair_of : (pair : Pair) → lines.IsPair pair → IsPair pair
pair_of pair is = record { first = event_number_of pair.first.0 is.first; second = event_number_of pair.second.0 is.second }

asked_of : (pair : EventId × EventId) → lines.IsAskedPair pair → IsAskedPair pair
asked_of pair is = record { first = event_number_of pair.0.0 is.first; second = event_number_of pair.1.0 is.second }

command_of : (command : Command) → lines.IsCommand command → IsCommand command
command_of Create is = tt
command_of (Assign batch) is =
    record {
      count = record { least = omega arith; most = is.most };
      each = All-weaker lines.IsPair IsPair pair_of batch is.each;
    }
command_of (Acquire event) is = event_number_of event.0 is
command_of (Release event) is = event_number_of event.0 is

pairs_of : (pairs : List (EventId × EventId)) → lines.ArePairs lines.IsAskedPair pairs → AreFewPairs 32 pairs
pairs_of pairs is = record { all = All-weaker lines.IsAskedPair IsAskedPair asked_of pairs is.each; few = is.most }

-- ---- parts of a world

-- a world that may be stepped
pub record IsReady (world : World) : Type 0 where
  pub sound : IsSound world
  pub begun : HaveBegun (2 ^ 63 - 1) world.clients
  pub spoken : IsSpoken world

client_fits : (world : World) (id : ClientId) (client : Client) → client_at world id ≡ Some client → IsReady world
    → IsFitClient client
client_fits world id client at ready =
    let i = id.0 - 1 in
    let bag = ready.sound.bag in
    let seq = at_index (λ (c : Client). c.seq ≤ length world.bag) world.clients i client ready.sound.calls at in
    let q = at_index (λ (c : Client). c.q ≤ 2 ^ 63 - 1) world.clients i client ready.begun at in
    record {
      spoken = at_index IsSpokenClient world.clients i client ready.spoken.clients at;
      seq = omega arith;
      q = omega arith;
    }

view_of : (world : World) (server : Server) → IsSpoken world → IsViewed (views_of world.manager) server
    → IsSpokenOpen IsView server.view
view_of world server spoken (inl own) =
    subst (IsSpokenOpen IsView) (sym own.adopted)
    (at_index IsView (views_of world.manager) (own.view.number - 1) own.view spoken.views own.listed)
view_of world server spoken (inr blank) = subst (IsSpokenOpen IsView) (sym blank.none) tt

-- a server of the world can be spelt, and has room in its log
record IsWell (server : Server) : Type 0 where
  fits : IsFit server
  room : HasRoom server

server_fits : (world : World) (id : ServerId) (server : Server) → server_at world id ≡ Some server → IsReady world
    → IsWell server
server_fits world id server at ready =
    let own = ready.sound.servers (id.0 - 1) server at in
    let number = own.id in
    let lt = slice_get_within world.servers (id.0 - 1) server at in
    let few = ready.sound.few in
    let bag = ready.sound.bag in
    let entries = own.entries in
    let done = own.done in
    let its = at_index IsSpokenServer world.servers (id.0 - 1) server ready.spoken.servers at in
    record {
      fits = record {
        id = record { above = omega arith; fits = omega arith };
        view = view_of world server ready.spoken own.own_view;
        log = its.log;
        long = omega arith;
        done = omega arith;
        waiting = its.waiting;
      };
      room = omega arith;
    }

-- other marks say nothing
marked_spoken : (world : World) (stopped lost delivered : List Bool) → IsSpoken world
    → IsSpoken (record world { stopped = stopped; lost = lost; delivered = delivered })
marked_spoken world stopped lost delivered spoken =
    record {
      packets = spoken.packets;
      views = spoken.views;
      number = spoken.number;
      servers = spoken.servers;
      clients = spoken.clients;
    }

-- a client that sends what can be spelt
client_spoken : (world : World) (id : ClientId) (reaction : Reaction Client) → IsSpokenClient reaction.after
    → All IsPacket reaction.sent → IsSpoken world
    → IsSpoken (client_sends world id reaction).after
client_spoken world id reaction after sent spoken =
    let number = spoken.number in
    let longer = length-append world.bag reaction.sent in
    record {
      packets = All-append IsPacket world.bag reaction.sent spoken.packets sent;
      views = spoken.views;
      number = omega arith;
      servers = spoken.servers;
      clients = All-set IsSpokenClient world.clients (id.0 - 1) reaction.after after spoken.clients;
    }

hearing_spoken : (world : World) (id : ClientId) (hearing : Hearing) → IsFitHearing hearing → IsSpoken world
    → IsSpoken (client_hears world id hearing).after
hearing_spoken world id hearing fits spoken =
    client_spoken world id (record { after = hearing.after; sent = hearing.sent }) fits.after fits.sent spoken

-- and a server
server_spoken : (world : World) (id : ServerId) (reaction : Reaction Server) → IsFitReaction reaction → IsSpoken world
    → IsSpoken (server_reacts world id reaction).after
server_spoken world id reaction fits spoken =
    let number = spoken.number in
    let longer = length-append world.bag reaction.sent in
    record {
      packets = All-append IsPacket world.bag reaction.sent spoken.packets fits.sent;
      views = spoken.views;
      number = omega arith;
      servers =
          All-set IsSpokenServer world.servers (id.0 - 1) reaction.after
          (record { log = fits.after.log; waiting = fits.after.waiting }) spoken.servers;
      clients = spoken.clients;
    }

-- a view of the manager, which is told to all whom it names: somebody at least
manager_spoken : (world : World) (manager : Manager) → IsSound (manager_tells world manager).after
    → length world.bag ≤ most_packets
    → manager.current.number ≤ world.manager.current.number + 1 → IsSpoken world → IsSpoken (manager_tells world manager).after
manager_spoken world manager sound few next spoken =
    let number = spoken.number in
    let made = sound.made in
    let servers = sound.few in
    let stopped = is_stopped (manager_tells world manager).after in
    let current = current_fits stopped manager sound.evolves (omega arith) (omega arith) in
    let some = current.count.least in
    let named = length-append manager.current.chain (option_to_list manager.current.joiner) in
    let told = length-map (named_by manager.current) (view_packet manager.current) in
    let longer = length-append world.bag (announces manager.current) in
    record {
      packets =
          All-append IsPacket world.bag (announces manager.current) spoken.packets (announces_fit manager.current current);
      views = views_fit stopped manager sound.evolves (omega arith) (omega arith);
      number = omega arith;
      servers = spoken.servers;
      clients = spoken.clients;
    }

-- ---- events

call_spoken : (world : World) (id : ClientId) (command : Command) (found : Option Client) → client_at world id ≡ found
    → IsCommand command → IsReady world
    → IsSpoken (client_calls world id command found).after
call_spoken world id command None at fit ready = ready.spoken
call_spoken world id command (Some client) at fit ready =
    let fits = client_fits world id client at ready in
    client_spoken world id (begins client command) (begun_fits client command fits fit) (request_sent client command fits fit)
    ready.spoken

query_spoken : (world : World) (id : ClientId) (server : ServerId) (pairs : List (EventId × EventId)) (found : Option Client)
    → client_at world id ≡ found
    → IsServerId server → AreFewPairs 32 pairs → IsReady world → IsSpoken (client_asks world id server pairs found).after
query_spoken world id server pairs None at to fit ready = ready.spoken
query_spoken world id server pairs (Some client) at to fit ready =
    hearing_spoken world id (asks client server pairs)
    (query_fits client server pairs (client_fits world id client at ready) to fit) ready.spoken

retry_spoken : (world : World) (id : ClientId) (server : ServerId) (found : Option Client) → client_at world id ≡ found
    → IsServerId server → IsReady world
    → IsSpoken (client_retries world server found).after
retry_spoken world id server None at to ready = ready.spoken
retry_spoken world id server (Some client) at to ready =
    let spoken = ready.spoken in
    let number = spoken.number in
    let longer = length-append world.bag (retries client server) in
    record {
      packets =
          All-append IsPacket world.bag (retries client server) spoken.packets
          (retry_sent client server (client_fits world id client at ready) to);
      views = spoken.views;
      number = omega arith;
      servers = spoken.servers;
      clients = spoken.clients;
    }

learn_spoken : (world : World) (id : ClientId) (found : Option Client) → client_at world id ≡ found → IsReady world
    → IsSpoken (learns_view world id found).after
learn_spoken world id None at ready = ready.spoken
learn_spoken world id (Some client) at ready =
    let sound = ready.sound in
    let number = ready.spoken.number in
    let bag = sound.bag in
    let made = sound.made in
    let few = sound.few in
    let fits = client_fits world id client at ready in
    let current = current_fits (is_stopped world) world.manager sound.evolves (omega arith) (omega arith) in
    hearing_spoken world id (unheard (learns client world.manager.current))
    (record { after = learnt_fits client world.manager.current fits.spoken current; sent = none_fits }) ready.spoken

heard_spoken : (world : World) (id : ClientId) (packet : Packet) (found : Option Client) → client_at world id ≡ found
    → IsPacket packet → IsReady world
    → IsSpoken (arrives_at_client world id packet found).after
heard_spoken world id packet None at fit ready = ready.spoken
heard_spoken world id packet (Some client) at fit ready =
    hearing_spoken world id (client_takes client packet) (packet_heard client packet (client_fits world id client at ready) fit)
    ready.spoken

taken_spoken : (world : World) (id : ServerId) (packet : Packet) (found : Option Server) → server_at world id ≡ found
    → IsPacket packet → IsReady world
    → IsSpoken (arrives_at_server world id packet found).after
taken_spoken world id packet None at fit ready = ready.spoken
taken_spoken world id packet (Some server) at fit ready =
    let well = server_fits world id server at ready in
    server_spoken world id (server_takes server packet) (takes_fit server packet well.fits well.room fit) ready.spoken

work_spoken : (world : World) (id : ServerId) (found : Option Server) → server_at world id ≡ found → IsReady world
    → IsSpoken (works world id found).after
work_spoken world id None at ready = ready.spoken
work_spoken world id (Some server) at ready =
    let well = server_fits world id server at ready in
    server_spoken world id (server_works server) (works_fit server well.fits) ready.spoken

tick_spoken : (world : World) (id : ServerId) (found : Option Server) → server_at world id ≡ found → IsReady world
    → IsSpoken (ticks_at world id found).after
tick_spoken world id None at ready = ready.spoken
tick_spoken world id (Some server) at ready =
    let well = server_fits world id server at ready in
    server_spoken world id (server_ticks server) (ticks_fit server well.fits) ready.spoken

ticks_spoken : (world : World) (who : Option ServerId) → IsSound (ticks world who).after → IsReady world
    → IsSpoken (ticks world who).after
ticks_spoken world None after ready = manager_spoken world world.manager after ready.sound.bag (omega arith) ready.spoken
ticks_spoken world (Some server) after ready = tick_spoken world server (server_at world server) refl ready

notice_spoken : (world : World) (found : Option Server) → IsSound (notices world found).after → IsReady world
    → IsSpoken (notices world found).after
notice_spoken world None after ready = ready.spoken
notice_spoken world (Some server) after ready =
    manager_spoken world (removes world.manager server.id) after ready.sound.bag (omega arith) ready.spoken

joined_spoken : (world : World) (from joiner : ServerId) → IsSound (joined_at_manager world from joiner).after → IsReady world
    → IsSpoken (joined_at_manager world from joiner).after
joined_spoken world from joiner after ready = by_test (may_promote world.manager.current from joiner) after
  where
    by_test : (may : Bool) → IsSound (cond may (manager_tells world (promotes world.manager joiner)) (quiet world)).after
        → IsSpoken (cond may (manager_tells world (promotes world.manager joiner)) (quiet world)).after
    by_test true after = manager_spoken world (promotes world.manager joiner) after ready.sound.bag (omega arith) ready.spoken
    by_test false after = ready.spoken

told_spoken : (world : World) (from : ServerId) (message : Message) → IsSound (told_by_server world from message).after
    → IsReady world → IsSpoken (told_by_server world from message).after
told_spoken world from (Joined joiner) after ready = joined_spoken world from joiner after ready
told_spoken world from other after ready = ready.spoken

at_manager_spoken : (world : World) (from : nodes.Node) (message : Message)
    → IsSound (arrives_at_manager world from message).after → IsReady world
    → IsSpoken (arrives_at_manager world from message).after
at_manager_spoken world ToManager message after ready = ready.spoken
at_manager_spoken world (ToClient client) message after ready = ready.spoken
at_manager_spoken world (ToServer server) message after ready = told_spoken world server message after ready

arrives_spoken : (world : World) (to : nodes.Node) (packet : Packet) → IsPacket packet → IsSound (arrives world to packet).after
    → IsReady world → IsSpoken (arrives world to packet).after
arrives_spoken world ToManager packet fit after ready = at_manager_spoken world packet.from packet.message after ready
arrives_spoken world (ToClient client) packet fit after ready =
    heard_spoken world client packet (client_at world client) refl fit ready
arrives_spoken world (ToServer server) packet fit after ready =
    taken_spoken world server packet (server_at world server) refl fit ready

delivered_ready : (world : World) (k : ℕ) → IsReady world → IsReady (record world { delivered = marked world.delivered k })
delivered_ready world k ready =
    record {
      sound = delivered_sound world k ready.sound;
      begun = ready.begun;
      spoken = marked_spoken world world.stopped world.lost (marked world.delivered k) ready.spoken;
    }

delivers_spoken : (world : World) (k : ℕ) (found : Option Packet) → packet_at world k ≡ found
    → IsSound (delivers world k found).after → IsReady world → IsSpoken (delivers world k found).after
delivers_spoken world k None at after ready = ready.spoken
delivers_spoken world k (Some packet) at after ready =
    arrives_spoken (record world { delivered = marked world.delivered k }) packet.to packet
    (at_index IsPacket world.bag (k - 1) packet ready.spoken.packets at) after (delivered_ready world k ready)

-- a server that joins has nothing yet
join_spoken : (world : World) → IsSound (joins world).after → IsReady world → IsSpoken (joins world).after
join_spoken world after ready =
    let spoken = ready.spoken in
    let server = newcomer (next_server world.manager) in
    let its : IsSpokenServer server = record { log = All-nil IsEntry; waiting = All-nil IsSpokenQuery } in
    manager_spoken (record world { servers = world.servers ++ server ∷ []; stopped = world.stopped ++ false ∷ [] })
    (adds world.manager) after ready.sound.bag (omega arith) (record {
      packets = spoken.packets;
      views = spoken.views;
      number = spoken.number;
      servers = All-push IsSpokenServer world.servers server spoken.servers its;
      clients = spoken.clients;
    })

shows_spoken : (world : World) (id : ServerId) (found : Option Server) → IsSpoken world → IsSpoken (shows world id found).after
shows_spoken world id None spoken = spoken
shows_spoken world id (Some server) spoken = spoken

-- what an event does that some line gives
pub act_spoken : (world : World) (event : Event) → lines.IsEvent event → IsSound (act world event).after → IsReady world
    → IsSpoken (act world event).after
act_spoken world (Call client command) fits after ready =
    call_spoken world client command (client_at world client) refl (command_of command fits.command_fits) ready
act_spoken world (Query client server pairs) fits after ready =
    query_spoken world client server pairs (client_at world client) refl (number_of server.0 fits.server_fits)
    (pairs_of pairs fits.pairs_fit) ready
act_spoken world (Retry client server) fits after ready =
    retry_spoken world client server (client_at world client) refl (number_of server.0 fits.server_fits) ready
act_spoken world (Deliver k) fits after ready = delivers_spoken world k (packet_at world k) refl after ready
act_spoken world (Lose k) fits after ready =
    marked_spoken world world.stopped (marked world.lost k) world.delivered ready.spoken
act_spoken world (Tick who) fits after ready = ticks_spoken world who after ready
act_spoken world (Work server workers) fits after ready = work_spoken world server (server_at world server) refl ready
act_spoken world (Stop server) fits after ready =
    marked_spoken world (marked world.stopped server.0) world.lost world.delivered ready.spoken
act_spoken world (Notice server) fits after ready = notice_spoken world (server_at world server) after ready
act_spoken world (Show server) fits after ready = shows_spoken world server (server_at world server) ready.spoken
act_spoken world Join fits after ready = join_spoken world after ready
act_spoken world Round fits after ready = ready.spoken
act_spoken world (Learn client) fits after ready = learn_spoken world client (client_at world client) refl ready
