-- Every step keeps the facts.
use Rattle.std.proofs.Common.{◌≡◌, ℕ, ◌-◌, ◌≤◌, false, List, refl, sym, subst, true, cond, [], ◌∷◌, ◌++◌, arith, ◌∙◌}
use Rattle.std.specs.Prelude.{Bool, Option, None, Some, All}
use Rattle.std.proofs.lemmas.List.Elements.{All-map, All-nil, All-push}
use Rattle.std.proofs.lemmas.Option.{none-some, slice_get_past}
use Rattle.kr_order.specs.declared.ids.ClientId.{ClientId}
use Rattle.kr_order.specs.declared.ids.ServerId.{ServerId}
use Rattle.kr_order.specs.declared.ids.EventId.{EventId}
use Rattle.kr_order.specs.declared.history.Command.{Command}
use Rattle.kr_order.specs.declared.message.Node as nodes
use Rattle.kr_order.specs.declared.message.Node.TheVariants.{Manager as AtManager, Client as AtClient, Server as AtServer}
use Rattle.kr_order.specs.declared.message.Packet.{Packet}
use Rattle.kr_order.proofs.PrefixLemmas.{IsPrefix-refl}
use Rattle.kr_protocol.specs.Manager.{Manager, removes, views_of, named_by, view_packet, announces, may_promote, next_server, adds, promotes}
use Rattle.kr_protocol.specs.Client.{Client}
use Rattle.kr_protocol.specs.Server.{Server, newcomer}
use Rattle.script_lang.specs.declared.script.Event.{Event}
use Rattle.script_lang.specs.declared.script.Event.TheVariants.{Call, Query, Retry, Deliver, Lose, Tick, Work, Stop, Notice, Show, Join, Round, Learn}
use Rattle.script_lang.specs.Event.{IsEvent}
use Rattle.kr_world.specs.declared.refusal.Refusal.{Refusal}
use Rattle.kr_order.specs.Marks.{marked}
use Rattle.kr_world.specs.World.{World, client_at, server_at, packet_at, has_stopped, with_packets}
use Rattle.kr_world.specs.Step.{Outcome, call_refusal, query_refusal, deliver_refusal, tick_refusal, client_calls, client_asks, arrives, delivers, loses, manager_tells, ticks, stops, notices, shows, act, refusal_of, unless, step, joined_at_manager, told_by_server, arrives_at_manager, joins, quiet}
use Rattle.kr_world.specs.Run.{Turn}
use Rattle.kr_world.specs.Sound.{IsSound, IsSoundPacket}
use Rattle.kr_world.specs.Facts.{IsTrueMessage, IsTruePacket, AreFacts, IsTrueQuery, IsTrueServer}
use Rattle.kr_world.proofs.steps.ListFacts.{all_of}
use Rattle.kr_world.proofs.steps.StepLemmas.{at_index, idle_client, may_ask, may_deliver, no_call, no_query}
use Rattle.kr_world.proofs.steps.BagLemmas.{delivered_sound}
use Rattle.kr_world.proofs.facts.FactLemmas.{marked_facts, managed_facts, sent_facts}
use Rattle.kr_world.proofs.facts.KeepLemmas.{turn_of, GoesOn, Keeps, tells_nothing, facts_after, quiet_goes_on, goes_on_keeps, refused_keeps}
use Rattle.kr_world.proofs.clients.ClientLemmas.{IsPresent}
use Rattle.kr_world.proofs.clients.CallLemmas.{call_keeps}
use Rattle.kr_world.proofs.clients.AskLemmas.{query_goes_on}
use Rattle.kr_world.proofs.clients.RetryLemmas.{retry_goes_on}
use Rattle.kr_world.proofs.clients.HearLemmas.{hears_goes_on, learns_goes_on}
use Rattle.kr_world.proofs.facts.ServerLemmas.{takes_goes_on, works_go_on, ticks_go_on}
use Rattle.kr_order.specs.declared.message.Message.{Message}
use Rattle.kr_order.specs.declared.message.Message.TheVariants.{Joined}
use Rattle.kr_order.specs.declared.history.Entry.{Entry}

calls_keep : (past : List Turn) (world : World) (caller : ClientId) (command : Command) (found : Option Client)
    → 1 ≤ caller.0 → client_at world caller ≡ found → call_refusal world found ≡ None → AreFacts past world
    → Keeps past (turn_of world (Call caller command) (client_calls world caller command found))
calls_keep past world caller command None low is none facts = absurd (none-some _ (sym none))
calls_keep past world caller command (Some client) low is none facts =
    let free = (idle_client world client none).idle in
    call_keeps past world caller command client (record { low = low; here = record { at = is; facts = facts }; no_command = no_call client free; no_query = no_query client free })

queries_go_on : (past : List Turn) (world : World) (caller : ClientId) (server : ServerId)
    (pairs : List (EventId × EventId))
    → query_refusal world server (client_at world caller) (server_at world server) ≡ None → AreFacts past world
    → GoesOn past world (client_asks world caller server pairs (client_at world caller))
queries_go_on past world caller server pairs none facts =
    let may = may_ask world server (client_at world caller) (server_at world server) none in
    let client = may.client in
    let free = (idle_client world client may.may_call).idle in
    let here : IsPresent past world caller client = record { at = may.client_is; facts = facts } in
    subst (λ found. GoesOn past world (client_asks world caller server pairs found)) (sym may.client_is) (query_goes_on past world caller server pairs client here (no_call client free))

-- the manager is no matter to the facts, nor are views that it sends
tells_goes_on : (past : List Turn) (world : World) (manager : Manager) → AreFacts past world
    → GoesOn past world (manager_tells world manager)
tells_goes_on past world manager facts =
    let now = record world { manager = manager } in
    let True = IsTruePacket past world.history in
    let said : All True (announces manager.current) = All-map True (view_packet manager.current) (named_by manager.current) (all_of (λ id. True (view_packet manager.current id)) (λ id. tt) (named_by manager.current)) in
    quiet_goes_on past world (with_packets now (announces manager.current)) refl (sent_facts past now (announces manager.current) said (managed_facts past world manager world.stopped facts))

-- what the manager is told of a joiner
joined_goes_on : (past : List Turn) (world : World) (from joiner : ServerId) → AreFacts past world → GoesOn past world (joined_at_manager world from joiner)
joined_goes_on past world from joiner facts = by_test (may_promote world.manager.current from joiner)
  where
    by_test : (test : Bool) → GoesOn past world (cond test (manager_tells world (promotes world.manager joiner)) (quiet world))
    by_test true = tells_goes_on past world (promotes world.manager joiner) facts
    by_test false = quiet_goes_on past world world refl facts

told_goes_on : (past : List Turn) (world : World) (from : ServerId) (message : Message) → AreFacts past world → GoesOn past world (told_by_server world from message)
told_goes_on past world from (Joined joiner) facts = joined_goes_on past world from joiner facts
told_goes_on past world from other facts = quiet_goes_on past world world refl facts

manager_goes_on : (past : List Turn) (world : World) (from : nodes.Node) (message : Message) → AreFacts past world → GoesOn past world (arrives_at_manager world from message)
manager_goes_on past world AtManager message facts = quiet_goes_on past world world refl facts
manager_goes_on past world (AtClient client) message facts = quiet_goes_on past world world refl facts
manager_goes_on past world (AtServer server) message facts = told_goes_on past world server message facts

-- a packet is delivered to its addressee
arrives_goes_on : (past : List Turn) (world : World) (k : ℕ) (to : nodes.Node) (packet : Packet) → packet.to ≡ to
    → packet_at world k ≡ Some packet → has_stopped world to ≡ false → IsSound world → AreFacts past world
    → GoesOn past world (arrives world to packet)
arrives_goes_on past world k AtManager packet to at runs sound facts = manager_goes_on past world packet.from packet.message facts
arrives_goes_on past world k (AtClient client) packet to at runs sound facts =
    let known = at_index (IsTruePacket past world.history) world.bag (k - 1) packet facts.packets at in
    let its = subst (λ node. IsTrueMessage past world.history packet.from node packet.message) to known in
    hears_goes_on past world client packet (client_at world client) refl its facts
arrives_goes_on past world k (AtServer server) packet to at runs sound facts =
    let known = at_index (IsTruePacket past world.history) world.bag (k - 1) packet facts.packets at in
    let said = at_index (IsSoundPacket (views_of world.manager) world.servers) world.bag (k - 1) packet sound.packets at in
    takes_goes_on past world server packet (server_at world server) refl runs sound facts said known

-- what goes on from a world with other marks goes on from this one
marked_goes_on : (past : List Turn) (world : World) (delivered : List Bool) (outcome : Outcome)
    → GoesOn past (record world { delivered = delivered }) outcome → GoesOn past world outcome
marked_goes_on past world delivered outcome on =
    record { taken = on.taken; facts = on.facts; tells = record { grows = on.tells.grows; told = on.tells.told; parts = on.tells.parts } }

delivers_goes_on : (past : List Turn) (world : World) (k : ℕ) (found : Option Packet) → packet_at world k ≡ found
    → deliver_refusal world k found ≡ None → IsSound world → AreFacts past world → GoesOn past world (delivers world k found)
delivers_goes_on past world k None is none sound facts = quiet_goes_on past world world refl facts
delivers_goes_on past world k (Some packet) is none sound facts =
    let marks = marked world.delivered k in
    let now = record world { delivered = marks } in
    let outcome = arrives now packet.to packet in
    marked_goes_on past world marks outcome (arrives_goes_on past now k packet.to packet refl is (may_deliver world k packet none).runs (delivered_sound world k sound) (marked_facts past world world.lost marks facts))

ticks_goes_on : (past : List Turn) (world : World) (who : Option ServerId) → tick_refusal world who ≡ None → IsSound world → AreFacts past world
    → GoesOn past world (ticks world who)
ticks_goes_on past world None none sound facts = tells_goes_on past world world.manager facts
ticks_goes_on past world (Some server) none sound facts = ticks_go_on past world server (server_at world server) refl none sound facts

-- a new server has nothing that could be false
joins_goes_on : (past : List Turn) (world : World) → AreFacts past world → GoesOn past world (joins world)
joins_goes_on past world facts =
    let server = newcomer (next_server world.manager) in
    let with_it = record world { servers = world.servers ++ server ∷ []; stopped = world.stopped ++ false ∷ [] } in
    let True = IsTrueServer past world.history in
    let blank : True server = record {
      waiting = All-nil (IsTrueQuery past world.history);
      log = record { callers = All-nil (λ entry. 1 ≤ entry.client.0); numbered = λ caller k entry is. absurd (none-some entry (sym (slice_get_past {X = Entry} [] k (omega arith)) ∙ is)) };
    } in
    let now : AreFacts past with_it = record { packets = facts.packets; in_step = facts.in_step; clients = facts.clients; servers = All-push True world.servers server facts.servers blank } in
    again (tells_goes_on past with_it (adds world.manager) now)
  where
    again : GoesOn past (record world { servers = world.servers ++ newcomer (next_server world.manager) ∷ []; stopped = world.stopped ++ false ∷ [] }) (joins world) → GoesOn past world (joins world)
    again on = record { taken = on.taken; facts = on.facts; tells = record { grows = on.tells.grows; told = on.tells.told; parts = on.tells.parts } }

notices_goes_on : (past : List Turn) (world : World) (found : Option Server) → AreFacts past world → GoesOn past world (notices world found)
notices_goes_on past world None facts = quiet_goes_on past world world refl facts
notices_goes_on past world (Some server) facts = tells_goes_on past world (removes world.manager server.id) facts

-- what is shown changes nothing
shows_goes_on : (past : List Turn) (world : World) (id : ServerId) (found : Option Server) → AreFacts past world
    → GoesOn past world (shows world id found)
shows_goes_on past world id None facts = quiet_goes_on past world world refl facts
shows_goes_on past world id (Some server) facts =
    record {
      taken = refl;
      facts = facts_after past (shows world id (Some server)) facts;
      tells = tells_nothing world (shows world id (Some server)) refl refl (IsPrefix-refl world.history);
    }

act_keeps : (past : List Turn) (world : World) (event : Event) → refusal_of world event ≡ None → IsEvent event
    → IsSound world → AreFacts past world → Keeps past (turn_of world event (act world event))
act_keeps past world (Call client command) none fit sound facts = calls_keep past world client command (client_at world client) fit.client_fits.low refl none facts
act_keeps past world (Query client server pairs) none fit sound facts =
    goes_on_keeps past world (Query client server pairs) _ (λ caller. refl) (queries_go_on past world client server pairs none facts)
act_keeps past world (Retry client server) none fit sound facts =
    goes_on_keeps past world (Retry client server) _ (λ caller. refl) (retry_goes_on past world client server (client_at world client) refl facts)
act_keeps past world (Deliver k) none fit sound facts =
    goes_on_keeps past world (Deliver k) _ (λ caller. refl) (delivers_goes_on past world k (packet_at world k) refl none sound facts)
act_keeps past world (Lose k) none fit sound facts =
    goes_on_keeps past world (Lose k) (loses world k) (λ caller. refl) (quiet_goes_on past world _ refl (marked_facts past world (marked world.lost k) world.delivered facts))
act_keeps past world (Tick who) none fit sound facts =
    goes_on_keeps past world (Tick who) _ (λ caller. refl) (ticks_goes_on past world who none sound facts)
act_keeps past world (Work server workers) none fit sound facts =
    goes_on_keeps past world (Work server workers) _ (λ caller. refl) (works_go_on past world server (server_at world server) refl none sound facts)
act_keeps past world (Stop server) none fit sound facts =
    goes_on_keeps past world (Stop server) (stops world server) (λ caller. refl) (quiet_goes_on past world _ refl (managed_facts past world world.manager (marked world.stopped server.0) facts))
act_keeps past world (Notice server) none fit sound facts =
    goes_on_keeps past world (Notice server) _ (λ caller. refl) (notices_goes_on past world (server_at world server) facts)
act_keeps past world Join none fit sound facts = goes_on_keeps past world Join _ (λ caller. refl) (joins_goes_on past world facts)
act_keeps past world Round none fit sound facts = goes_on_keeps past world Round _ (λ caller. refl) (quiet_goes_on past world world refl facts)
act_keeps past world (Learn client) none fit sound facts =
    goes_on_keeps past world (Learn client) _ (λ caller. refl) (learns_goes_on past world client (client_at world client) refl facts)
act_keeps past world (Show server) none fit sound facts =
    goes_on_keeps past world (Show server) _ (λ caller. refl) (shows_goes_on past world server (server_at world server) facts)

step_cases : (past : List Turn) (world : World) (event : Event) (refusal : Option Refusal)
    → refusal_of world event ≡ refusal → IsEvent event → IsSound world → AreFacts past world → Keeps past (turn_of world event (unless world refusal (act world event)))
step_cases past world event None is fit sound facts = act_keeps past world event is fit sound facts
step_cases past world event (Some why) is fit sound facts = refused_keeps past world event why facts

-- every step keeps the facts
pub step_keeps : (past : List Turn) (world : World) (event : Event) → IsEvent event → IsSound world
    → AreFacts past world → Keeps past (turn_of world event (step world event))
step_keeps past world event fit sound facts = step_cases past world event (refusal_of world event) refl fit sound facts
