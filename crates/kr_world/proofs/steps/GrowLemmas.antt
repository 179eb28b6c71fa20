-- What no step takes back: packets and marks.
use Rattle.std.proofs.Common.{zero, suc, ◌≡◌, ℕ, ◌-◌, ◌≤◌, Bool, true, false, cond, not, ◌&&◌, List, [], ◌∷◌, ◌++◌, length, map, refl, sym, ap, ◌∙◌, arith}
use Rattle.std.specs.Prelude.{Option, None, Some, slice_get, slice_set}
use Rattle.std.proofs.lemmas.Bool.{false≢true}
use Rattle.std.proofs.lemmas.List.{length-append, length-set}
use Rattle.std.proofs.lemmas.Option.{none-some}
use Rattle.kr_order.specs.declared.ids.ClientId.{ClientId}
use Rattle.kr_order.specs.declared.ids.ServerId.{ServerId}
use Rattle.kr_order.specs.declared.ids.EventId.{EventId}
use Rattle.kr_order.specs.declared.history.Command.{Command}
use Rattle.kr_order.specs.declared.message.Node as nodes
use Rattle.kr_order.specs.declared.message.Node.TheVariants.{Manager as ToManager, Client as ToClient, Server as ToServer}
use Rattle.kr_order.specs.declared.message.Message.{Message}
use Rattle.kr_order.specs.declared.message.Message.TheVariants.{Joined}
use Rattle.kr_order.specs.declared.message.Packet.{Packet}
use Rattle.kr_protocol.specs.Manager.{Manager, announces, may_promote, promotes, removes, adds, next_server}
use Rattle.kr_protocol.specs.Reaction.{Reaction}
use Rattle.kr_protocol.specs.Server.{Server, newcomer, server_takes, server_works, server_ticks}
use Rattle.kr_protocol.specs.Client.{Client, Hearing, begins, asks, unheard, learns, retries, client_takes}
use Rattle.kr_protocol.proofs.ListLemmas.{slice_get_left}
use Rattle.script_lang.specs.declared.script.Event.{Event}
use Rattle.script_lang.specs.declared.script.Event.TheVariants.{Call, Query, Retry, Deliver, Lose, Tick, Work, Stop, Notice, Show, Join, Round, Learn}
use Rattle.kr_world.specs.declared.refusal.Refusal.{Refusal}
use Rattle.kr_order.specs.Marks.{is_marked, marked}
use Rattle.kr_world.specs.World.{World, client_at, server_at, packet_at, has_stopped, longest, with_packets}
use Rattle.kr_world.specs.Step.{refusal_of, client_sends, client_calls, client_asks, client_retries, client_hears, server_reacts, arrives_at_client, arrives_at_server, arrives_at_manager, arrives, delivers, loses, works, ticks, ticks_at, stops, notices, joins, learns_view, shows, act, unless, step, quiet, manager_tells, joined_at_manager, told_by_server}
use Rattle.kr_world.specs.Round.{may_take, is_under_way, AreSettled}
use Rattle.kr_world.proofs.steps.MarkLemmas.{still_marked, marked_behind}

-- as many clients; each packet keeps its number, and each mark stands
pub record Grows (before after : World) : Type 0 where
  pub clients : length after.clients ≡ length before.clients
  pub longer : length before.bag ≤ length after.bag
  pub packets : (k : ℕ) (packet : Packet) → packet_at before k ≡ Some packet → packet_at after k ≡ Some packet
  pub lost : (k : ℕ) → is_marked before.lost k ≡ true → is_marked after.lost k ≡ true
  pub delivered : (k : ℕ) → is_marked before.delivered k ≡ true → is_marked after.delivered k ≡ true
  pub stopped : (n : ℕ) → is_marked before.stopped n ≡ true → is_marked after.stopped n ≡ true

grows-same : (world : World) → Grows world world
grows-same world = record {
  clients = refl;
  longer = omega arith;
  packets = λ k packet is. is;
  lost = λ k is. is;
  delivered = λ k is. is;
  stopped = λ n is. is;
}

grows-trans : (first mid last : World) → Grows first mid → Grows mid last → Grows first last
grows-trans first mid last one two = record {
  clients = two.clients ∙ one.clients;
  longer = omega (arith, one.longer, two.longer);
  packets = λ k packet is. two.packets k packet (one.packets k packet is);
  lost = λ k is. two.lost k (one.lost k is);
  delivered = λ k is. two.delivered k (one.delivered k is);
  stopped = λ n is. two.stopped n (one.stopped n is);
}

-- with packets in the bag, other servers and another manager or history
sends_grow : (world after : World) (packets : List Packet) → after.bag ≡ world.bag → after.lost ≡ world.lost → after.delivered ≡ world.delivered → after.stopped ≡ world.stopped → length after.clients ≡ length world.clients → Grows world (with_packets after packets)
sends_grow world after packets bag lost delivered stopped clients = record {
  clients = clients;
  longer = omega (arith, ap length bag, length-append after.bag packets);
  packets = λ k packet is. slice_get_left after.bag packets (k - 1) packet (ap (λ b. slice_get b (k - 1)) bag ∙ is);
  lost = λ k is. marked_behind after.lost (map (λ (p : Packet). false) packets) k (ap (λ m. is_marked m k) lost ∙ is);
  delivered = λ k is. marked_behind after.delivered (map (λ (p : Packet). false) packets) k (ap (λ m. is_marked m k) delivered ∙ is);
  stopped = λ n is. ap (λ m. is_marked m n) stopped ∙ is;
}

client_grows : (world : World) (id : ClientId) (reaction : Reaction Client) → Grows world (client_sends world id reaction).after
client_grows world id reaction =
    let clients = slice_set world.clients (id.0 - 1) reaction.after in
    sends_grow world (record world { clients = clients }) reaction.sent refl refl refl refl (length-set world.clients (id.0 - 1) reaction.after)

server_grows : (world : World) (id : ServerId) (reaction : Reaction Server) → Grows world (server_reacts world id reaction).after
server_grows world id reaction =
    let servers = slice_set world.servers (id.0 - 1) reaction.after in
    sends_grow world (record world { servers = servers; history = longest world.history servers }) reaction.sent refl refl refl refl refl

tells_grow : (world : World) (manager : Manager) → Grows world (manager_tells world manager).after
tells_grow world manager =
    sends_grow world (record world { manager = manager }) (announces manager.current) refl refl refl refl refl

calls_grow : (world : World) (id : ClientId) (command : Command) (found : Option Client) → Grows world (client_calls world id command found).after
calls_grow world id command None = grows-same world
calls_grow world id command (Some client) = client_grows world id (begins client command)

hears_grow : (world : World) (id : ClientId) (hearing : Hearing) → Grows world (client_hears world id hearing).after
hears_grow world id hearing = client_grows world id (record { after = hearing.after; sent = hearing.sent })

asks_grow : (world : World) (id : ClientId) (server : ServerId) (pairs : List (EventId × EventId)) (found : Option Client) → Grows world (client_asks world id server pairs found).after
asks_grow world id server pairs None = grows-same world
asks_grow world id server pairs (Some client) = hears_grow world id (asks client server pairs)

retries_grow : (world : World) (server : ServerId) (found : Option Client) → Grows world (client_retries world server found).after
retries_grow world server None = grows-same world
retries_grow world server (Some client) = sends_grow world world (retries client server) refl refl refl refl refl

joined_grows : (world : World) (from joiner : ServerId) → Grows world (joined_at_manager world from joiner).after
joined_grows world from joiner = by_test (may_promote world.manager.current from joiner)
  where
    by_test : (test : Bool) → Grows world (cond test (manager_tells world (promotes world.manager joiner)) (quiet world)).after
    by_test true = tells_grow world (promotes world.manager joiner)
    by_test false = grows-same world

told_grows : (world : World) (from : ServerId) (message : Message) → Grows world (told_by_server world from message).after
told_grows world from (Joined joiner) = joined_grows world from joiner
told_grows world from other = grows-same world

manager_grows : (world : World) (from : nodes.Node) (message : Message) → Grows world (arrives_at_manager world from message).after
manager_grows world ToManager message = grows-same world
manager_grows world (ToClient client) message = grows-same world
manager_grows world (ToServer server) message = told_grows world server message

to_client_grows : (world : World) (id : ClientId) (packet : Packet) (found : Option Client) → Grows world (arrives_at_client world id packet found).after
to_client_grows world id packet None = grows-same world
to_client_grows world id packet (Some client) = hears_grow world id (client_takes client packet)

to_server_grows : (world : World) (id : ServerId) (packet : Packet) (found : Option Server) → Grows world (arrives_at_server world id packet found).after
to_server_grows world id packet None = grows-same world
to_server_grows world id packet (Some server) = server_grows world id (server_takes server packet)

arrives_grows : (world : World) (to : nodes.Node) (packet : Packet) → Grows world (arrives world to packet).after
arrives_grows world ToManager packet = manager_grows world packet.from packet.message
arrives_grows world (ToClient client) packet = to_client_grows world client packet (client_at world client)
arrives_grows world (ToServer server) packet = to_server_grows world server packet (server_at world server)

-- with one mark more
delivered_grows : (world : World) (k : ℕ) → Grows world (record world { delivered = marked world.delivered k })
delivered_grows world k = record {
  clients = refl;
  longer = omega arith;
  packets = λ j packet is. is;
  lost = λ j is. is;
  delivered = λ j is. still_marked world.delivered k j is;
  stopped = λ n is. is;
}

loses_grow : (world : World) (k : ℕ) → Grows world (loses world k).after
loses_grow world k = record {
  clients = refl;
  longer = omega arith;
  packets = λ j packet is. is;
  lost = λ j is. still_marked world.lost k j is;
  delivered = λ j is. is;
  stopped = λ n is. is;
}

stops_grow : (world : World) (id : ServerId) → Grows world (stops world id).after
stops_grow world id = record {
  clients = refl;
  longer = omega arith;
  packets = λ j packet is. is;
  lost = λ j is. is;
  delivered = λ j is. is;
  stopped = λ n is. still_marked world.stopped id.0 n is;
}

delivers_grow : (world : World) (k : ℕ) (found : Option Packet) → Grows world (delivers world k found).after
delivers_grow world k None = grows-same world
delivers_grow world k (Some packet) =
    let now = record world { delivered = marked world.delivered k } in
    grows-trans world now (arrives now packet.to packet).after (delivered_grows world k) (arrives_grows now packet.to packet)

works_grow : (world : World) (id : ServerId) (found : Option Server) → Grows world (works world id found).after
works_grow world id None = grows-same world
works_grow world id (Some server) = server_grows world id (server_works server)

tick_grows : (world : World) (id : ServerId) (found : Option Server) → Grows world (ticks_at world id found).after
tick_grows world id None = grows-same world
tick_grows world id (Some server) = server_grows world id (server_ticks server)

ticks_grow : (world : World) (who : Option ServerId) → Grows world (ticks world who).after
ticks_grow world None = tells_grow world world.manager
ticks_grow world (Some server) = tick_grows world server (server_at world server)

notices_grow : (world : World) (found : Option Server) → Grows world (notices world found).after
notices_grow world None = grows-same world
notices_grow world (Some server) = tells_grow world (removes world.manager server.id)

-- a server more, which has not stopped
joins_grow : (world : World) → Grows world (joins world).after
joins_grow world =
    let now = record world { servers = world.servers ++ newcomer (next_server world.manager) ∷ []; stopped = world.stopped ++ false ∷ [] } in
    let more : Grows world now = record {
      clients = refl;
      longer = omega arith;
      packets = λ k packet is. is;
      lost = λ k is. is;
      delivered = λ k is. is;
      stopped = λ n is. marked_behind world.stopped (false ∷ []) n is;
    } in
    grows-trans world now (joins world).after more (tells_grow now (adds world.manager))

learns_grow : (world : World) (id : ClientId) (found : Option Client) → Grows world (learns_view world id found).after
learns_grow world id None = grows-same world
learns_grow world id (Some client) = hears_grow world id (unheard (learns client world.manager.current))

shows_grow : (world : World) (id : ServerId) (found : Option Server) → Grows world (shows world id found).after
shows_grow world id None = grows-same world
shows_grow world id (Some server) = grows-same world

act_grows : (world : World) (event : Event) → Grows world (act world event).after
act_grows world (Call client command) = calls_grow world client command (client_at world client)
act_grows world (Query client server pairs) = asks_grow world client server pairs (client_at world client)
act_grows world (Retry client server) = retries_grow world server (client_at world client)
act_grows world (Deliver k) = delivers_grow world k (packet_at world k)
act_grows world (Lose k) = loses_grow world k
act_grows world (Tick who) = ticks_grow world who
act_grows world (Work server workers) = works_grow world server (server_at world server)
act_grows world (Stop server) = stops_grow world server
act_grows world (Notice server) = notices_grow world (server_at world server)
act_grows world (Show server) = shows_grow world server (server_at world server)
act_grows world Join = joins_grow world
act_grows world Round = grows-same world
act_grows world (Learn client) = learns_grow world client (client_at world client)

pub step_grows : (world : World) (event : Event) → Grows world (step world event).after
step_grows world event = by_refusal (refusal_of world event)
  where
    by_refusal : (refusal : Option Refusal) → Grows world (unless world refusal (act world event)).after
    by_refusal None = act_grows world event
    by_refusal (Some why) = grows-same world

-- so a packet that is not under way never is again
at_rest : (before after : World) (k : ℕ) (packet : Packet) → Grows before after → packet_at before k ≡ Some packet → is_under_way before k ≡ false → is_under_way after k ≡ false
at_rest before after k packet grows there is =
    let still = grows.packets k packet there in
    ap (λ found. not (is_marked after.delivered k) && (not (is_marked after.lost k) && may_take after found)) still
    ∙ by_marks (is_marked before.delivered k) (is_marked before.lost k) (has_stopped before packet.to) (is_marked after.delivered k) (is_marked after.lost k) (has_stopped after packet.to)
    (grows.delivered k) (grows.lost k) (stopped_on packet.to) (ap (λ found. not (is_marked before.delivered k) && (not (is_marked before.lost k) && may_take before found)) (sym there) ∙ is)
  where
    stopped_on : (to : nodes.Node) → has_stopped before to ≡ true → has_stopped after to ≡ true
    stopped_on ToManager is = absurd (false≢true is)
    stopped_on (ToClient client) is = absurd (false≢true is)
    stopped_on (ToServer server) is = grows.stopped server.0 is

    by_marks : (d l s d' l' s' : Bool) → (d ≡ true → d' ≡ true) → (l ≡ true → l' ≡ true) → (s ≡ true → s' ≡ true) → not d && (not l && not s) ≡ false → not d' && (not l' && not s') ≡ false
    by_marks true l s d' l' s' delivered lost stopped is = ap (λ b. not b && (not l' && not s')) (delivered refl)
    by_marks false true s d' l' s' delivered lost stopped is = ap (λ b. not d' && (not b && not s')) (lost refl) ∙ none d'
      where
        none : (b : Bool) → not b && false ≡ false
        none true = refl
        none false = refl
    by_marks false false true d' l' s' delivered lost stopped is = ap (λ b. not d' && (not l' && not b)) (stopped refl) ∙ neither d' l'
      where
        neither : (a b : Bool) → not a && (not b && false) ≡ false
        neither true b = refl
        neither false true = refl
        neither false false = refl
    by_marks false false false d' l' s' delivered lost stopped is = absurd (false≢true (sym is))

-- where the bag has no such packet, the number is past its last
none_past : (bag : List Packet) (i : ℕ) → slice_get bag i ≡ None → length bag ≤ i
none_past [] i is = omega arith
none_past (packet ∷ bag) zero is = absurd (none-some packet (sym is))
none_past (packet ∷ bag) (suc i) is = let short = none_past bag i is in omega arith

pub settled_stay : (world : World) (event : Event) (n : ℕ) → AreSettled world n → AreSettled (step world event).after n
settled_stay world event n settled =
    let grows = step_grows world event in
    record {
      within = omega (arith, settled.within, grows.longer);
      none = λ k low high. by_packet k (packet_at world k) refl low high;
    }
  where
    by_packet : (k : ℕ) (found : Option Packet) → packet_at world k ≡ found → 1 ≤ k → k ≤ n → is_under_way (step world event).after k ≡ false
    by_packet k None is low high = absurd (omega (arith, none_past world.bag (k - 1) is, settled.within))
    by_packet k (Some packet) is low high = at_rest world (step world event).after k packet (step_grows world event) is (settled.none k low high)
