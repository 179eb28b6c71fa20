-- Promotion is safe: who becomes a member has held the history before.
use Rattle.std.proofs.Common.{◌≡◌, ◌≢◌, ℕ, ◌-◌, Bool, true, false, cond, List, refl, sym, ap, ◌∙◌, subst, arith}
use Rattle.std.specs.Prelude.{Option, None, Some, slice_get}
use Rattle.kr_order.specs.Marks.{marked}
use Rattle.kr_order.specs.declared.ids.ClientId.{ClientId}
use Rattle.kr_order.specs.declared.ids.ServerId.{ServerId}
use Rattle.kr_order.specs.declared.ids.EventId.{EventId}
use Rattle.kr_order.specs.declared.history.Command.{Command}
use Rattle.kr_order.specs.declared.message.Node as nodes
use Rattle.kr_order.specs.declared.message.Node.TheVariants.{Manager as AtManager, Client as AtClient, Server as AtServer}
use Rattle.kr_order.specs.declared.message.Message.{Message}
use Rattle.kr_order.specs.declared.message.Message.TheVariants.{Joined}
use Rattle.kr_order.specs.declared.message.Packet.{Packet}
use Rattle.kr_order.specs.Prefix.{IsPrefix}
use Rattle.kr_order.specs.View.{in_chain}
use Rattle.kr_protocol.specs.Manager.{may_promote, promotes}
use Rattle.kr_protocol.specs.Server.{Server}
use Rattle.kr_protocol.specs.Client.{Client}
use Rattle.kr_protocol.proofs.TimelineLemmas.{listed_current, rises}
use Rattle.script_lang.specs.declared.script.Event.{Event}
use Rattle.script_lang.specs.declared.script.Event.TheVariants.{Call, Query, Retry, Deliver, Lose, Tick, Work, Stop, Notice, Show, Join, Round, Learn}
use Rattle.kr_world.specs.declared.refusal.Refusal.{Refusal}
use Rattle.kr_world.specs.World.{World, first_world, client_at, server_at, packet_at, is_stopped}
use Rattle.kr_world.specs.Step.{Outcome, quiet, client_calls, client_asks, client_retries, arrives_at_client, arrives_at_server, arrives_at_manager, arrives, delivers, works, ticks, ticks_at, notices, learns_view, shows, act, unless, step, refusal_of, manager_tells, joined_at_manager, told_by_server}
use Rattle.kr_world.specs.Round.{steps_of}
use Rattle.kr_world.specs.Sound.{IsSound}
use Rattle.kr_world.specs.EveryWorld.{HoldsHistory, PromotionIsSafe}
use Rattle.kr_world.proofs.runs.EveryWorldLemmas.{members_hold}
use Rattle.kr_world.proofs.runs.RunLemmas.{step_at, world_reached}
use Rattle.kr_world.proofs.sound.SoundLemmas.{worlds_sound}

-- a step leaves the chain as it was, or all logs and the history
data LeavesOne (world after : World) : Type 0 where
  chain_stays : after.manager.current.chain ≡ world.manager.current.chain → LeavesOne world after
  logs_stay : after.servers ≡ world.servers → after.history ≡ world.history → LeavesOne world after

joined_leaves : (world : World) (from joiner : ServerId) → LeavesOne world (joined_at_manager world from joiner).after
joined_leaves world from joiner = by_test (may_promote world.manager.current from joiner)
  where
    by_test : (test : Bool) → LeavesOne world (cond test (manager_tells world (promotes world.manager joiner)) (quiet world)).after
    by_test true = logs_stay refl refl
    by_test false = chain_stays refl

told_leaves : (world : World) (from : ServerId) (message : Message) → LeavesOne world (told_by_server world from message).after
told_leaves world from (Joined joiner) = joined_leaves world from joiner
told_leaves world from other = chain_stays refl

manager_leaves : (world : World) (from : nodes.Node) (message : Message) → LeavesOne world (arrives_at_manager world from message).after
manager_leaves world AtManager message = chain_stays refl
manager_leaves world (AtClient client) message = chain_stays refl
manager_leaves world (AtServer server) message = told_leaves world server message

client_leaves : (world : World) (id : ClientId) (packet : Packet) (found : Option Client) → LeavesOne world (arrives_at_client world id packet found).after
client_leaves world id packet None = chain_stays refl
client_leaves world id packet (Some client) = chain_stays refl

server_leaves : (world : World) (id : ServerId) (packet : Packet) (found : Option Server) → LeavesOne world (arrives_at_server world id packet found).after
server_leaves world id packet None = chain_stays refl
server_leaves world id packet (Some server) = chain_stays refl

arrives_leaves : (world : World) (to : nodes.Node) (packet : Packet) → LeavesOne world (arrives world to packet).after
arrives_leaves world AtManager packet = manager_leaves world packet.from packet.message
arrives_leaves world (AtClient client) packet = client_leaves world client packet (client_at world client)
arrives_leaves world (AtServer server) packet = server_leaves world server packet (server_at world server)

delivers_leaves : (world : World) (k : ℕ) (found : Option Packet) → LeavesOne world (delivers world k found).after
delivers_leaves world k None = chain_stays refl
delivers_leaves world k (Some packet) =
    let now = record world { delivered = marked world.delivered k } in again (arrives now packet.to packet).after (arrives_leaves now packet.to packet)
  where
    again : (after : World) → LeavesOne (record world { delivered = marked world.delivered k }) after → LeavesOne world after
    again after (chain_stays same) = chain_stays same
    again after (logs_stay servers history) = logs_stay servers history

calls_leave : (world : World) (id : ClientId) (command : Command) (found : Option Client) → LeavesOne world (client_calls world id command found).after
calls_leave world id command None = chain_stays refl
calls_leave world id command (Some client) = chain_stays refl

asks_leave : (world : World) (id : ClientId) (server : ServerId) (pairs : List (EventId × EventId)) (found : Option Client) → LeavesOne world (client_asks world id server pairs found).after
asks_leave world id server pairs None = chain_stays refl
asks_leave world id server pairs (Some client) = chain_stays refl

retries_leave : (world : World) (server : ServerId) (found : Option Client) → LeavesOne world (client_retries world server found).after
retries_leave world server None = chain_stays refl
retries_leave world server (Some client) = chain_stays refl

works_leave : (world : World) (id : ServerId) (found : Option Server) → LeavesOne world (works world id found).after
works_leave world id None = chain_stays refl
works_leave world id (Some server) = chain_stays refl

ticks_leave : (world : World) (id : ServerId) (found : Option Server) → LeavesOne world (ticks_at world id found).after
ticks_leave world id None = chain_stays refl
ticks_leave world id (Some server) = chain_stays refl

tick_leaves : (world : World) (who : Option ServerId) → LeavesOne world (ticks world who).after
tick_leaves world None = chain_stays refl
tick_leaves world (Some server) = ticks_leave world server (server_at world server)

notices_leave : (world : World) (found : Option Server) → LeavesOne world (notices world found).after
notices_leave world None = chain_stays refl
notices_leave world (Some server) = logs_stay refl refl

shows_leave : (world : World) (id : ServerId) (found : Option Server) → LeavesOne world (shows world id found).after
shows_leave world id None = chain_stays refl
shows_leave world id (Some server) = chain_stays refl

learns_leave : (world : World) (id : ClientId) (found : Option Client) → LeavesOne world (learns_view world id found).after
learns_leave world id None = chain_stays refl
learns_leave world id (Some client) = chain_stays refl

act_leaves : (world : World) (event : Event) → LeavesOne world (act world event).after
act_leaves world (Call client command) = calls_leave world client command (client_at world client)
act_leaves world (Query client server pairs) = asks_leave world client server pairs (client_at world client)
act_leaves world (Retry client server) = retries_leave world server (client_at world client)
act_leaves world (Deliver k) = delivers_leaves world k (packet_at world k)
act_leaves world (Lose k) = chain_stays refl
act_leaves world (Tick who) = tick_leaves world who
act_leaves world (Work server workers) = works_leave world server (server_at world server)
act_leaves world (Stop server) = chain_stays refl
act_leaves world (Notice server) = notices_leave world (server_at world server)
act_leaves world (Show server) = shows_leave world server (server_at world server)
act_leaves world Join = chain_stays refl
act_leaves world Round = chain_stays refl
act_leaves world (Learn client) = learns_leave world client (client_at world client)

step_leaves : (world : World) (event : Event) → LeavesOne world (step world event).after
step_leaves world event = by_refusal (refusal_of world event)
  where
    by_refusal : (refusal : Option Refusal) → LeavesOne world (unless world refusal (act world event)).after
    by_refusal None = act_leaves world event
    by_refusal (Some why) = chain_stays refl

-- a joiner is no member yet
joiner_apart : (world : World) → IsSound world → (joiner : ServerId) → world.manager.current.joiner ≡ Some joiner
    → in_chain world.manager.current joiner ≢ true
joiner_apart world sound joiner joins member =
    let newest = listed_current (is_stopped world) world.manager sound.evolves in
    let less = (rises (is_stopped world) world.manager sound.evolves world.manager.current newest).joiner joiner joiner member joins in
    absurd (omega (arith, less))

-- where it becomes one, the history was in its log
joiner_held : (world : World) → IsSound world → (event : Event) (joiner : ServerId) → world.manager.current.joiner ≡ Some joiner
    → in_chain (step world event).after.manager.current joiner ≡ true → HoldsHistory world joiner
joiner_held world sound event joiner joins member = by_case (step_leaves world event)
  where
    by_case : LeavesOne world (step world event).after → HoldsHistory world joiner
    by_case (chain_stays same) = absurd (joiner_apart world sound joiner joins (chain_member same))
      where
        chain_member : (step world event).after.manager.current.chain ≡ world.manager.current.chain → in_chain world.manager.current joiner ≡ true
        chain_member is = ap (λ chain. in_chain (record world.manager.current { chain = chain }) joiner) (sym is) ∙ member
    by_case (logs_stay servers history) =
        let held = members_hold (step world event).after (worlds_sound.later world event sound) joiner member in
        record {
          server = held.server;
          there = ap (λ ss. slice_get ss (joiner.0 - 1)) (sym servers) ∙ held.there;
          holds = subst (λ h. IsPrefix h held.server.log) history held.holds;
        }

pub promotion_safe : PromotionIsSafe
promotion_safe script fit i turn is joiner joins member =
    let first = first_world script.servers script.clients in
    let its = step_at first (steps_of first script.events) i turn is in
    let sound : IsSound turn.before = subst IsSound (sym its.before) (world_reached script fit i).sound in
    joiner_held turn.before sound turn.event joiner joins (ap (λ (o : Outcome). in_chain o.after.manager.current joiner) (sym its.outcome) ∙ member)
