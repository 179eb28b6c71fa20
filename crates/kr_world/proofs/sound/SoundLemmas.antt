-- Every step keeps the world sound.
use Rattle.std.proofs.Common.{◌≡◌, ℕ, ◌-◌, ◌<◌, false, cond, length, refl, sym, subst}
use Rattle.std.specs.Prelude.{Option, None, Some}
use Rattle.kr_order.specs.declared.ids.ServerId.{ServerId}
use Rattle.kr_order.specs.declared.message.Node as nodes
use Rattle.kr_order.specs.declared.message.Node.TheVariants.{Manager, Client as ToClient, Server as ToServer}
use Rattle.kr_order.specs.declared.message.Message.{Message}
use Rattle.kr_order.specs.declared.message.Message.TheVariants.{Joined}
use Rattle.kr_order.specs.declared.message.Packet.{Packet}
use Rattle.kr_protocol.specs.Manager.{views_of}
use Rattle.kr_protocol.specs.Reaction.{ignored}
use Rattle.kr_protocol.specs.Server.{Server, adopts, server_takes, server_works, server_ticks}
use Rattle.script_lang.specs.declared.script.Event.{Event}
use Rattle.script_lang.specs.declared.script.Event.TheVariants.{Call, Query, Retry, Deliver, Lose, Tick, Work, Stop, Notice, Show, Join, Round, Learn}
use Rattle.kr_world.specs.declared.refusal.Refusal.{Refusal}
use Rattle.kr_order.specs.Marks.{marked}
use Rattle.kr_world.specs.World.{World, client_at, server_at, packet_at, is_stopped, has_stopped}
use Rattle.kr_world.specs.Step.{bag_limit, if_full, turn_refusal, deliver_refusal, tick_refusal, refusal_of, arrives_at_server, told_by_server, arrives_at_manager, arrives, delivers, works, ticks, ticks_at, shows, act, unless}
use Rattle.kr_world.specs.Sound.{IsSound, IsSoundMessage, IsSoundPacket, WorldsAreSound}
use Rattle.kr_world.proofs.steps.StepLemmas.{at_index, has_room, may_turn, may_deliver}
use Rattle.kr_world.proofs.chain.SeatLemmas.{IsSeated, seated}
use Rattle.kr_world.proofs.bounds.BoundsLemmas.{IsWithinBounds}
use Rattle.kr_world.proofs.shapes.HandlerLemmas.{IsTaken, adopts_view, has_shape, taken_of}
use Rattle.kr_world.proofs.shapes.TurnLemmas.{works_shape, ticks_shape}
use Rattle.kr_world.proofs.bounds.BelowLemmas.{counted_of}
use Rattle.kr_world.proofs.bounds.WithinLemmas.{shape_within}
use Rattle.kr_world.proofs.bounds.AdoptLemmas.{adopts_within}
use Rattle.kr_world.proofs.sound.FirstLemmas.{first_is_sound}
use Rattle.kr_world.proofs.steps.BagLemmas.{lost_sound, delivered_sound}
use Rattle.kr_world.proofs.sound.ClientStepLemmas.{call_sound, query_sound, retry_sound, hears_sound, learn_sound}
use Rattle.kr_world.proofs.sound.ServerStepLemmas.{reacts_sound}
use Rattle.kr_world.proofs.manager.StopLemmas.{stop_sound}
use Rattle.kr_world.proofs.manager.NextViewLemmas.{told_sound}
use Rattle.kr_world.proofs.manager.NoticeLemmas.{notice_sound}
use Rattle.kr_world.proofs.manager.JoinLemmas.{join_sound}
use Rattle.kr_world.proofs.manager.PromotionLemmas.{joined_sound}

-- what a server does with a packet that is true is within bounds
taken_within :
    (world : World) (id : ServerId) (packet : Packet) (server : Server)
    → IsSeated world id server
    → IsSoundPacket (views_of world.manager) world.servers packet
    → IsTaken server packet
    → IsWithinBounds world server (server_takes server packet)
taken_within world id packet server seat said (adopts_view to view may) =
    subst (λ test. IsWithinBounds world server (cond test (adopts server view) (ignored server))) (sym may) (adopts_within world id server view seat said may)
taken_within world id packet server seat said (has_shape any shape) = shape_within world id server (Some packet) (server_takes server packet) seat said shape

pub takes_within :
    (world : World) (id : ServerId) (packet : Packet) (server : Server)
    → IsSeated world id server
    → IsSoundPacket (views_of world.manager) world.servers packet
    → IsWithinBounds world server (server_takes server packet)
takes_within world id packet server seat said = taken_within world id packet server seat said (taken_of server packet (counted_of world id server seat))

-- so is what it does when it works
pub work_within :
    (world : World) (id : ServerId) (server : Server)
    → IsSeated world id server
    → IsWithinBounds world server (server_works server)
work_within world id server seat = shape_within world id server None (server_works server) seat tt (works_shape server)

-- and when it ticks
pub tick_within :
    (world : World) (id : ServerId) (server : Server)
    → IsSeated world id server
    → IsWithinBounds world server (server_ticks server)
tick_within world id server seat = shape_within world id server None (server_ticks server) seat tt (ticks_shape server)

takes_sound :
    (world : World) (id : ServerId) (packet : Packet) (found : Option Server)
    → server_at world id ≡ found
    → is_stopped world id ≡ false
    → length world.bag < bag_limit
    → IsSoundPacket (views_of world.manager) world.servers packet
    → IsSound world
    → IsSound (arrives_at_server world id packet found).after
takes_sound world id packet None is runs room said sound = sound
takes_sound world id packet (Some server) is runs room said sound =
    let seat = seated world id server is runs sound in
    reacts_sound world id server (server_takes server packet) seat room (takes_within world id packet server seat said)

work_sound :
    (world : World) (id : ServerId) (found : Option Server)
    → server_at world id ≡ found
    → turn_refusal world id found ≡ None
    → IsSound world
    → IsSound (works world id found).after
work_sound world id None is none sound = sound
work_sound world id (Some server) is none sound =
    let may = may_turn world id (Some server) (if_full world) none in
    let seat = seated world id server is may.runs sound in
    reacts_sound world id server (server_works server) seat (has_room world may.free) (work_within world id server seat)

tick_sound :
    (world : World) (id : ServerId) (found : Option Server)
    → server_at world id ≡ found
    → turn_refusal world id found ≡ None
    → IsSound world
    → IsSound (ticks_at world id found).after
tick_sound world id None is none sound = sound
tick_sound world id (Some server) is none sound =
    let may = may_turn world id (Some server) (if_full world) none in
    let seat = seated world id server is may.runs sound in
    reacts_sound world id server (server_ticks server) seat (has_room world may.free) (tick_within world id server seat)

ticks_sound :
    (world : World) (who : Option ServerId)
    → tick_refusal world who ≡ None
    → IsSound world
    → IsSound (ticks world who).after
ticks_sound world None none sound = told_sound world (has_room world none) sound
ticks_sound world (Some server) none sound = tick_sound world server (server_at world server) refl none sound

shows_sound :
    (world : World) (id : ServerId) (found : Option Server)
    → IsSound world
    → IsSound (shows world id found).after
shows_sound world id None sound = sound
shows_sound world id (Some server) sound = sound

told_by_sound : (world : World) (from : ServerId) (message : Message) → length world.bag < bag_limit → IsSoundMessage (views_of world.manager) world.servers (ToServer from) message
    → IsSound world → IsSound (told_by_server world from message).after
told_by_sound world from (Joined joiner) room said sound = joined_sound world from joiner room said sound
told_by_sound world from other room said sound = sound

manager_sound : (world : World) (from : nodes.Node) (message : Message) → length world.bag < bag_limit → IsSoundMessage (views_of world.manager) world.servers from message
    → IsSound world → IsSound (arrives_at_manager world from message).after
manager_sound world Manager message room said sound = sound
manager_sound world (ToClient client) message room said sound = sound
manager_sound world (ToServer server) message room said sound = told_by_sound world server message room said sound

arrives_sound :
    (world : World) (to : nodes.Node) (packet : Packet)
    → has_stopped world to ≡ false
    → length world.bag < bag_limit
    → IsSoundPacket (views_of world.manager) world.servers packet
    → IsSound world
    → IsSound (arrives world to packet).after
arrives_sound world Manager packet runs room said sound = manager_sound world packet.from packet.message room said sound
arrives_sound world (ToClient client) packet runs room said sound = hears_sound world client packet (client_at world client) refl room sound
arrives_sound world (ToServer server) packet runs room said sound =
    takes_sound world server packet (server_at world server) refl runs room said sound

delivers_sound :
    (world : World) (k : ℕ) (found : Option Packet)
    → packet_at world k ≡ found
    → deliver_refusal world k found ≡ None
    → IsSound world
    → IsSound (delivers world k found).after
delivers_sound world k None is none sound = sound
delivers_sound world k (Some packet) is none sound =
    let said = at_index (IsSoundPacket (views_of world.manager) world.servers) world.bag (k - 1) packet sound.packets is in
    let may = may_deliver world k packet none in
    arrives_sound (record world { delivered = marked world.delivered k }) packet.to packet may.runs may.room said (delivered_sound world k sound)

act_sound :
    (world : World) (event : Event)
    → refusal_of world event ≡ None
    → IsSound world
    → IsSound (act world event).after
act_sound world (Call client command) none sound = call_sound world client command (client_at world client) refl none sound
act_sound world (Query client server pairs) none sound = query_sound world client server pairs none sound
act_sound world (Retry client server) none sound = retry_sound world client server none sound
act_sound world (Deliver k) none sound = delivers_sound world k (packet_at world k) refl none sound
act_sound world (Lose k) none sound = lost_sound world k sound
act_sound world (Tick who) none sound = ticks_sound world who none sound
act_sound world (Work server workers) none sound = work_sound world server (server_at world server) refl none sound
act_sound world (Stop server) none sound = stop_sound world server (server_at world server) refl none sound
act_sound world (Notice server) none sound = notice_sound world server (server_at world server) refl none sound
act_sound world (Show server) none sound = shows_sound world server (server_at world server) sound
act_sound world Join none sound = join_sound world none sound
act_sound world Round none sound = sound
act_sound world (Learn client) none sound = learn_sound world client (client_at world client) refl sound

step_cases :
    (world : World) (event : Event) (refusal : Option Refusal)
    → refusal_of world event ≡ refusal
    → IsSound world
    → IsSound (unless world refusal (act world event)).after
step_cases world event None none sound = act_sound world event none sound
step_cases world event (Some why) is sound = sound

pub worlds_sound : WorldsAreSound
worlds_sound = record { first = first_is_sound; later = λ world event sound. step_cases world event (refusal_of world event) refl sound }
