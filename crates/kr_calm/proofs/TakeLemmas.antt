-- What a step of a round does exactly, where it is not refused.
use Rattle.kr_order.specs.declared.message.Node.TheVariants.{Client as ToClient, Server as ToServer}
use Rattle.kr_protocol.specs.Server.{Server, server_takes, server_works, server_ticks}
use Rattle.kr_protocol.specs.Client.{Client, is_busy, retries, client_takes}
use Rattle.std.proofs.Common.{Bool, List, ap, cond, false, refl, true, ℕ, ◌-◌, ◌∙◌, ◌≡◌, ◌≢◌}
use Rattle.std.specs.Prelude.{None, Some, slice_get, slice_set}
use Rattle.std.proofs.lemmas.Option.{slice_get_within}
use Rattle.kr_order.specs.declared.ids.ClientId.{ClientId}
use Rattle.kr_order.specs.declared.ids.ServerId.{ServerId}
use Rattle.kr_order.specs.declared.message.Packet.{Packet}
use Rattle.script_lang.specs.declared.script.Event.TheVariants.{Deliver, Retry, Tick, Work}
use Rattle.kr_world.proofs.steps.ListFacts.{set_here}
use Rattle.kr_world.specs.Sound.{IsSound}
use Rattle.kr_world.specs.Step.{arrives, arrives_at_client, arrives_at_server, client_retries, client_sends, deliver_refusal, delivers, if_full, is_full, manager_tells, refusal_of, retry_refusal, server_reacts, server_refusal, step, ticks_at, turn_refusal, unless, works}
use Rattle.kr_order.specs.Marks.{is_marked}
use Rattle.kr_world.specs.World.{World, client_at, has_stopped, is_stopped, longest, packet_at, server_at, with_packets}
use Rattle.kr_world.specs.declared.refusal.Refusal.TheVariants.{BagFull, Lost, NothingOpen, Stopped}
use Rattle.kr_calm.proofs.DoesLemmas.{taken}
use Rattle.kr_calm.proofs.GoLemmas.{Has, HasClient}
use Rattle.kr_calm.proofs.InLemmas.{IsIn}
use Rattle.kr_calm.proofs.WayLemmas.{IsOnItsWay, IsUnderWay, sent_under_way}

pub room_none : (world : World) → if_full world ≢ Some BagFull → if_full world ≡ None
room_none world room = by_full (is_full world) refl
  where
    by_full : (full : Bool) → is_full world ≡ full → if_full world ≡ None
    by_full true is = absurd (room (ap (λ test. cond test (Some BagFull) None) is))
    by_full false is = ap (λ test. cond test (Some BagFull) None) is

-- a delivery
pub delivers_now : (world : World) (k : ℕ) (packet : Packet) → packet_at world k ≡ Some packet → deliver_refusal world k (Some packet) ≡ None → (step world (Deliver k)).after ≡ (arrives (taken world k) packet.to packet).after
delivers_now world k packet there none =
    ap (λ found. (unless world (deliver_refusal world k found) (delivers world k found)).after) there
    ∙ ap (λ refusal. (unless world refusal (arrives (taken world k) packet.to packet)).after) none

pub takes_now : (world : World) (k : ℕ) (packet : Packet) (id : ServerId) (server : Server) → packet_at world k ≡ Some packet → deliver_refusal world k (Some packet) ≡ None → packet.to ≡ ToServer id → server_at world id ≡ Some server
    → (step world (Deliver k)).after ≡ (server_reacts (taken world k) id (server_takes server packet)).after
takes_now world k packet id server there none to at =
    let now = taken world k in
    delivers_now world k packet there none ∙ ap (λ node. (arrives now node packet).after) to ∙ ap (λ found. (arrives_at_server now id packet found).after) at

pub hears_now : (world : World) (k : ℕ) (packet : Packet) (id : ClientId) (client : Client) → packet_at world k ≡ Some packet → deliver_refusal world k (Some packet) ≡ None → packet.to ≡ ToClient id → client_at world id ≡ Some client
    → (step world (Deliver k)).after ≡ (client_sends (taken world k) id (record { after = (client_takes client packet).after; sent = (client_takes client packet).sent })).after
hears_now world k packet id client there none to at =
    let now = taken world k in
    delivers_now world k packet there none ∙ ap (λ node. (arrives now node packet).after) to ∙ ap (λ found. (arrives_at_client now id packet found).after) at

-- a server that takes it
pub has_taken : (world : World) (k : ℕ) (packet : Packet) (id : ServerId) (server : Server) (P : Server → Type 0) → packet_at world k ≡ Some packet → deliver_refusal world k (Some packet) ≡ None → packet.to ≡ ToServer id → server_at world id ≡ Some server
    → P (server_takes server packet).after → Has (step world (Deliver k)).after id P
has_taken world k packet id server P there none to at holds =
    let after = (server_takes server packet).after in
    record {
      server = after;
      at = ap (λ (w : World). slice_get w.servers (id.0 - 1)) (takes_now world k packet id server there none to at) ∙ set_here world.servers (id.0 - 1) after (slice_get_within world.servers (id.0 - 1) server at);
      holds = holds;
    }

-- a client that takes it
pub has_heard : (world : World) (k : ℕ) (packet : Packet) (id : ClientId) (client : Client) (P : Client → Type 0) → packet_at world k ≡ Some packet → deliver_refusal world k (Some packet) ≡ None → packet.to ≡ ToClient id → client_at world id ≡ Some client
    → P (client_takes client packet).after → HasClient (step world (Deliver k)).after id P
has_heard world k packet id client P there none to at holds =
    let after = (client_takes client packet).after in
    record {
      client = after;
      at = ap (λ (w : World). slice_get w.clients (id.0 - 1)) (hears_now world k packet id client there none to at) ∙ set_here world.clients (id.0 - 1) after (slice_get_within world.clients (id.0 - 1) client at);
      holds = holds;
    }

-- a server that runs is refused nothing but for want of room
turn_none : (world : World) (id : ServerId) (server : Server) → server_at world id ≡ Some server → is_stopped world id ≡ false → turn_refusal world id (server_at world id) ≢ Some BagFull → turn_refusal world id (server_at world id) ≡ None
turn_none world id server at runs room =
    let same : turn_refusal world id (server_at world id) ≡ if_full world = ap (turn_refusal world id) at ∙ ap (λ test. cond test (Some Stopped) (if_full world)) runs in
    same ∙ room_none world (λ full. room (same ∙ full))

pub ticks_now : (world : World) (id : ServerId) (server : Server) → server_at world id ≡ Some server → is_stopped world id ≡ false → refusal_of world (Tick (Some id)) ≢ Some BagFull
    → (step world (Tick (Some id))).after ≡ (server_reacts world id (server_ticks server)).after
ticks_now world id server at runs room =
    ap (λ refusal. (unless world refusal (ticks_at world id (server_at world id))).after) (turn_none world id server at runs room) ∙ ap (λ found. (ticks_at world id found).after) at

pub works_now : (world : World) (id : ServerId) (workers : ℕ) (server : Server) → server_at world id ≡ Some server → is_stopped world id ≡ false → refusal_of world (Work id workers) ≢ Some BagFull
    → (step world (Work id workers)).after ≡ (server_reacts world id (server_works server)).after
works_now world id workers server at runs room =
    ap (λ refusal. (unless world refusal (works world id (server_at world id))).after) (turn_none world id server at runs room) ∙ ap (λ found. (works world id found).after) at

pub tells_now : (world : World) → refusal_of world (Tick None) ≢ Some BagFull → (step world (Tick None)).after ≡ (manager_tells world world.manager).after
tells_now world room = ap (λ refusal. (unless world refusal (manager_tells world world.manager)).after) (room_none world room)

pub retries_now : (world : World) (id : ClientId) (to : ServerId) (client : Client) (server : Server) → client_at world id ≡ Some client → server_at world to ≡ Some server → is_stopped world to ≡ false → is_busy client ≡ true
    → refusal_of world (Retry id to) ≢ Some BagFull → (step world (Retry id to)).after ≡ with_packets world (retries client to)
retries_now world id to client server at there runs busy room =
    let same : refusal_of world (Retry id to) ≡ if_full world =
    ap (λ found. retry_refusal world to found (server_at world to)) at
    ∙ ap (λ found. server_refusal world to found (cond (is_busy client) (if_full world) (Some NothingOpen))) there
    ∙ ap (λ test. cond test (Some Stopped) (cond (is_busy client) (if_full world) (Some NothingOpen))) runs
    ∙ ap (λ test. cond test (if_full world) (Some NothingOpen)) busy in
    let none = same ∙ room_none world (λ full. room (same ∙ full)) in
    ap (λ refusal. (unless world refusal (client_retries world to (client_at world id))).after) none ∙ ap (λ found. (client_retries world to found).after) at

-- what a server sends when it goes on is on its way
pub reacts_send : (world : World) (id : ServerId) (after : Server) (sent : List Packet) (packet : Packet) → IsSound world → has_stopped world packet.to ≡ false → IsIn packet sent
    → IsOnItsWay (server_reacts world id (record { after = after; sent = sent })).after packet
reacts_send world id after sent packet sound runs is =
    let servers = slice_set world.servers (id.0 - 1) after in
    sent_under_way world (record world { servers = servers; history = longest world.history servers }) sent packet refl sound.delivered sound.lost runs is

-- a packet that is under way is refused nothing but for want of room
pub deliver_none : (world : World) (packet : Packet) (k : ℕ) → IsUnderWay world packet k → refusal_of world (Deliver k) ≢ Some BagFull → deliver_refusal world k (Some packet) ≡ None
deliver_none world packet k under room =
    let first : deliver_refusal world k (Some packet) ≡ if_full world = ap (λ test. cond test (Some Stopped) (cond (is_marked world.lost k) (Some Lost) (if_full world))) under.runs ∙ ap (λ test. cond test (Some Lost) (if_full world)) under.lost in
    let all : refusal_of world (Deliver k) ≡ if_full world = ap (deliver_refusal world k) under.there ∙ first in
    first ∙ room_none world (λ full. room (all ∙ full))
