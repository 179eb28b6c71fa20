-- What a step of a round does, where no server joins.
use Rattle.kr_order.specs.declared.message.Node.TheVariants.{Manager as ToManager, Client as ToClient, Server as ToServer}
use Rattle.kr_order.specs.declared.message.Node as nodes
use Rattle.kr_protocol.specs.Client.{Client, learns, retries, client_takes}
use Rattle.kr_protocol.specs.Server.{Server, server_takes, server_works, server_ticks}
use Rattle.kr_protocol.specs.Manager.{are_last_and_joiner, may_promote, promotes}
use Rattle.kr_order.specs.View.{last_member}
use Rattle.kr_order.specs.Marks.{marked}
use Rattle.kr_world.specs.World.{World, client_at, server_at, packet_at, is_stopped, has_stopped, with_packets}
use Rattle.std.proofs.Common.{[], ap, cond, false, refl, subst, sym, ℕ, ◌∙◌, ◌≡◌}
use Rattle.std.specs.Prelude.{None, Option, Some}
use Rattle.kr_order.specs.declared.ids.ClientId.{ClientId}
use Rattle.kr_order.specs.declared.ids.ServerId.{ServerId}
use Rattle.kr_order.specs.declared.message.Message.{Message}
use Rattle.kr_order.specs.declared.message.Message.TheVariants.{Joined}
use Rattle.kr_order.specs.declared.message.Node.{Node}
use Rattle.kr_order.specs.declared.message.Packet.{Packet}
use Rattle.script_lang.specs.declared.script.Event.{Event}
use Rattle.script_lang.specs.declared.script.Event.TheVariants.{Deliver, Learn, Retry, Tick, Work}
use Rattle.kr_world.proofs.chain.SeatLemmas.{IsSeated, seated}
use Rattle.kr_world.proofs.steps.StepLemmas.{may_deliver, may_turn}
use Rattle.kr_world.specs.Round.{IsOfRound}
use Rattle.kr_world.specs.Sound.{IsSound}
use Rattle.kr_world.specs.Step.{act, arrives, arrives_at_client, arrives_at_manager, arrives_at_server, client_retries, client_sends, deliver_refusal, delivers, if_full, joined_at_manager, learns_view, manager_tells, quiet, refusal_of, server_reacts, step, ticks_at, told_by_server, turn_refusal, unless, works}
use Rattle.kr_world.specs.declared.refusal.Refusal.{Refusal}

-- the packet of this number has been delivered
abbrev pub taken : World → ℕ → World
taken world k = record world { delivered = marked world.delivered k }

pub data Does (world : World) : Event → World → Type 0 where
  -- it is refused, or there is nobody
  does_nothing : (event : Event) → Does world event world
  -- a client learns the view
  does_learn :
      (id : ClientId) (client : Client)
      → client_at world id ≡ Some client
      → Does world (Learn id) (client_sends world id (record { after = learns client world.manager.current; sent = [] })).after
  -- the manager tells its view
  does_tell : Does world (Tick None) (manager_tells world world.manager).after
  -- a server ticks
  does_tick :
      (id : ServerId) (server : Server)
      → IsSeated world id server
      → Does world (Tick (Some id)) (server_reacts world id (server_ticks server)).after
  -- an open call is tried again
  does_retry :
      (id : ClientId) (to : ServerId) (client : Client)
      → client_at world id ≡ Some client
      → Does world (Retry id to) (with_packets world (retries client to))
  -- a server works
  does_work :
      (id : ServerId) (workers : ℕ) (server : Server)
      → IsSeated world id server
      → Does world (Work id workers) (server_reacts world id (server_works server)).after
  -- a packet comes to nobody, or to the manager, which makes no view of it
  does_mark : (k : ℕ) → Does world (Deliver k) (taken world k)
  -- to a client
  does_hear :
      (k : ℕ) (packet : Packet) (id : ClientId) (client : Client)
      → packet_at world k ≡ Some packet
      → packet.to ≡ ToClient id
      → client_at world id ≡ Some client
      → Does world (Deliver k) (client_sends (taken world k) id (record { after = (client_takes client packet).after; sent = (client_takes client packet).sent })).after
  -- to a server
  does_take :
      (k : ℕ) (packet : Packet) (id : ServerId) (server : Server)
      → packet_at world k ≡ Some packet
      → packet.to ≡ ToServer id
      → IsSeated world id server
      → Does world (Deliver k) (server_reacts (taken world k) id (server_takes server packet)).after

-- no joiner, no promotion
none_promoted : (last : Option ServerId) (from joiner : ServerId) → are_last_and_joiner last None from joiner ≡ false
none_promoted None from joiner = refl
none_promoted (Some last) from joiner = refl

joined_does : (world : World) (k : ℕ) (from joiner : ServerId) → world.manager.current.joiner ≡ None → Does world (Deliver k) (joined_at_manager (taken world k) from joiner).after
joined_does world k from joiner alone =
    let none : may_promote world.manager.current from joiner ≡ false = ap (λ j. are_last_and_joiner (last_member world.manager.current) j from joiner) alone ∙ none_promoted (last_member world.manager.current) from joiner in
    let now = taken world k in
    subst (λ test. Does world (Deliver k) (cond test (manager_tells now (promotes now.manager joiner)) (quiet now)).after) (sym none) (does_mark k)

told_does : (world : World) (k : ℕ) (from : ServerId) (message : Message) → world.manager.current.joiner ≡ None → Does world (Deliver k) (told_by_server (taken world k) from message).after
told_does world k from (Joined joiner) alone = joined_does world k from joiner alone
told_does world k from other alone = does_mark k

manager_does : (world : World) (k : ℕ) (from : nodes.Node) (message : Message) → world.manager.current.joiner ≡ None → Does world (Deliver k) (arrives_at_manager (taken world k) from message).after
manager_does world k ToManager message alone = does_mark k
manager_does world k (ToClient client) message alone = does_mark k
manager_does world k (ToServer server) message alone = told_does world k server message alone

client_does : (world : World) (k : ℕ) (packet : Packet) (id : ClientId) (found : Option Client) → packet_at world k ≡ Some packet → packet.to ≡ ToClient id → client_at world id ≡ found
    → Does world (Deliver k) (arrives_at_client (taken world k) id packet found).after
client_does world k packet id None there to is = does_mark k
client_does world k packet id (Some client) there to is = does_hear k packet id client there to is

server_does : (world : World) (k : ℕ) (packet : Packet) (id : ServerId) (found : Option Server) → packet_at world k ≡ Some packet → packet.to ≡ ToServer id → server_at world id ≡ found
    → is_stopped world id ≡ false → IsSound world → Does world (Deliver k) (arrives_at_server (taken world k) id packet found).after
server_does world k packet id None there to is runs sound = does_mark k
server_does world k packet id (Some server) there to is runs sound = does_take k packet id server there to (seated world id server is runs sound)

arrive_does : (world : World) (k : ℕ) (packet : Packet) (to : nodes.Node) → packet_at world k ≡ Some packet → packet.to ≡ to → has_stopped world to ≡ false → IsSound world → world.manager.current.joiner ≡ None
    → Does world (Deliver k) (arrives (taken world k) to packet).after
arrive_does world k packet ToManager there to runs sound alone = manager_does world k packet.from packet.message alone
arrive_does world k packet (ToClient client) there to runs sound alone = client_does world k packet client (client_at world client) there to refl
arrive_does world k packet (ToServer server) there to runs sound alone = server_does world k packet server (server_at world server) there to refl runs sound

deliver_does : (world : World) (k : ℕ) (found : Option Packet) → packet_at world k ≡ found → deliver_refusal world k found ≡ None → IsSound world → world.manager.current.joiner ≡ None
    → Does world (Deliver k) (delivers world k found).after
deliver_does world k None is none sound alone = does_nothing (Deliver k)
deliver_does world k (Some packet) is none sound alone =
    let may = may_deliver world k packet none in arrive_does world k packet packet.to is refl may.runs sound alone

tick_does : (world : World) (id : ServerId) (found : Option Server) → server_at world id ≡ found → turn_refusal world id found ≡ None → IsSound world
    → Does world (Tick (Some id)) (ticks_at world id found).after
tick_does world id None is none sound = does_nothing (Tick (Some id))
tick_does world id (Some server) is none sound =
    does_tick id server (seated world id server is (may_turn world id (Some server) (if_full world) none).runs sound)

work_does : (world : World) (id : ServerId) (workers : ℕ) (found : Option Server) → server_at world id ≡ found → turn_refusal world id found ≡ None → IsSound world
    → Does world (Work id workers) (works world id found).after
work_does world id workers None is none sound = does_nothing (Work id workers)
work_does world id workers (Some server) is none sound =
    does_work id workers server (seated world id server is (may_turn world id (Some server) (if_full world) none).runs sound)

learn_does : (world : World) (id : ClientId) (found : Option Client) → client_at world id ≡ found → Does world (Learn id) (learns_view world id found).after
learn_does world id None is = does_nothing (Learn id)
learn_does world id (Some client) is = does_learn id client is

retry_does : (world : World) (id : ClientId) (to : ServerId) (found : Option Client) → client_at world id ≡ found → Does world (Retry id to) (client_retries world to found).after
retry_does world id to None is = does_nothing (Retry id to)
retry_does world id to (Some client) is = does_retry id to client is

act_does : (world : World) (event : Event) → IsOfRound event → IsSound world → world.manager.current.joiner ≡ None → refusal_of world event ≡ None → Does world event (act world event).after
act_does world (Retry client server) is sound alone none = retry_does world client server (client_at world client) refl
act_does world (Deliver k) is sound alone none = deliver_does world k (packet_at world k) refl none sound alone
act_does world (Tick None) is sound alone none = does_tell
act_does world (Tick (Some id)) is sound alone none = tick_does world id (server_at world id) refl none sound
act_does world (Work id workers) is sound alone none = work_does world id workers (server_at world id) refl none sound
act_does world (Learn client) is sound alone none = learn_does world client (client_at world client) refl
act_does world event never sound alone none = absurd never

pub does : (world : World) (event : Event) → IsOfRound event → IsSound world → world.manager.current.joiner ≡ None → Does world event (step world event).after
does world event is sound alone = by_refusal (refusal_of world event) refl
  where
    by_refusal : (refusal : Option Refusal) → refusal_of world event ≡ refusal → Does world event (unless world refusal (act world event)).after
    by_refusal None none = act_does world event is sound alone none
    by_refusal (Some why) refused = does_nothing event

-- the manager keeps its view
pub does_manager : (world : World) (event : Event) (after : World) → Does world event after → after.manager ≡ world.manager
does_manager world event after (does_nothing e) = refl
does_manager world event after (does_learn id client at) = refl
does_manager world event after does_tell = refl
does_manager world event after (does_tick id server seat) = refl
does_manager world event after (does_retry id to client at) = refl
does_manager world event after (does_work id workers server seat) = refl
does_manager world event after (does_mark k) = refl
does_manager world event after (does_hear k packet id client there to at) = refl
does_manager world event after (does_take k packet id server there to seat) = refl
