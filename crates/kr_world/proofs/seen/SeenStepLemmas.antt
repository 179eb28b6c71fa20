-- What a step tells its clients is in order, and each has seen then what it has heard of.
use Rattle.std.proofs.Common.{◌≡◌, ℕ, ◌-◌, ◌≤◌, Bool, true, false, cond, ◌&&◌, eqb, ltb, List, [], refl, sym, subst}
use Rattle.std.specs.Prelude.{Option, None, Some}
use Rattle.std.proofs.lemmas.Bool.{eq-eqb, ne_eqb, cond-true, cond-false}
use Rattle.kr_order.specs.Marks.{marked}
use Rattle.kr_order.specs.declared.ids.ClientId.{ClientId}
use Rattle.kr_order.specs.declared.ids.ServerId.{ServerId}
use Rattle.kr_order.specs.declared.ids.EventId.{EventId}
use Rattle.kr_order.specs.declared.history.Command.{Command}
use Rattle.kr_order.specs.declared.message.Node as nodes
use Rattle.kr_order.specs.declared.message.Node.TheVariants.{Manager as AtManager, Client as AtClient, Server as AtServer}
use Rattle.kr_order.specs.declared.message.Message.{Message}
use Rattle.kr_order.specs.declared.message.Message.TheVariants.{Replied, Answered, Refer, Joined}
use Rattle.kr_order.specs.declared.message.Packet.{Packet}
use Rattle.kr_order.specs.declared.view.View.{View}
use Rattle.kr_protocol.specs.Manager.{may_promote, promotes}
use Rattle.kr_protocol.specs.Server.{Server}
use Rattle.kr_protocol.specs.Client.{Client, Hearing, unheard, begins, asks, learns, turns_to, after_refer, message_to}
use Rattle.script_lang.specs.declared.script.Event.{Event}
use Rattle.script_lang.specs.declared.script.Event.TheVariants.{Call, Query, Retry, Deliver, Lose, Tick, Work, Stop, Notice, Show, Join, Round, Learn}
use Rattle.script_lang.specs.Event.{IsEvent}
use Rattle.kr_world.specs.declared.refusal.Refusal.{Refusal}
use Rattle.kr_world.specs.World.{World, client_at, server_at, packet_at}
use Rattle.kr_world.specs.Step.{Outcome, quiet, refuses, client_sends, client_hears, client_calls, client_asks, client_retries, arrives_at_client, arrives_at_server, arrives_at_manager, arrives, delivers, works, ticks, ticks_at, notices, learns_view, shows, act, unless, step, refusal_of, manager_tells, joined_at_manager, told_by_server}
use Rattle.kr_world.specs.Run.{Turn}
use Rattle.kr_world.specs.Facts.{IsTrueMessage, IsTruePacket, AreFacts}
use Rattle.kr_world.specs.Seen.{unsure_from, unsure_message, unsure_client, unsure_at, unsure_packet, unsure_by}
use Rattle.kr_world.proofs.steps.StepLemmas.{at_index}
use Rattle.kr_world.proofs.seen.SeenLemmas.{tellings_to, IsHeardRight, reply_right, from_right, asks_right}
use Rattle.kr_world.proofs.seen.HearingLemmas.{IsInOrder, Goes, silent, still, seen_kept, deaf, hears_in_order}

nothing_unsure : (test : Bool) → (let none : List ℕ = [] in cond test none none ≡ none)
nothing_unsure true = refl
nothing_unsure false = refl

-- the client takes a packet of this number's client; where it is told of a place or an entry, that is not 0
takes_known : (world : World) (id : ClientId) (client : Client) (hearing : Hearing) (entries : List ℕ) → client_at world id ≡ Some client → 1 ≤ id.0
    → IsHeardRight id client hearing entries → Goes world (client_hears world id hearing) (λ c. cond (eqb id.0 c.0) entries [])
takes_known world id client hearing entries at low heard =
    let own = sym (cond-true (eqb id.0 id.0) entries [] (eq-eqb id.0 id.0 refl)) in
    hears_in_order world id client hearing (λ c. cond (eqb id.0 c.0) entries []) at low (subst (IsHeardRight id client hearing) own heard) (λ c differ. cond-false (eqb id.0 c.0) entries [] (ne_eqb id.0 c.0 (λ same. differ (sym same))))

takes_nothing : (world : World) (id : ClientId) (client : Client) (hearing : Hearing) → client_at world id ≡ Some client → hearing.after.seen ≡ client.seen
    → tellings_to id hearing ≡ [] → Goes world (client_hears world id hearing) (λ c. cond (eqb id.0 c.0) [] [])
takes_nothing world id client hearing at same none = deaf world id client hearing (λ c. cond (eqb id.0 c.0) [] []) at same none (λ c. nothing_unsure (eqb id.0 c.0))

refer_nothing : (world : World) (id : ClientId) (client : Client) (asking : Option (List (EventId × EventId))) (q part : ℕ) (view : View) → client_at world id ≡ Some client
    → Goes world (client_hears world id (after_refer client asking q part view)) (λ c. cond (eqb id.0 c.0) [] [])
refer_nothing world id client None q part view at = takes_nothing world id client (unheard client) at refl refl
refer_nothing world id client (Some pairs) q part view at = by_test (eqb q client.q && (eqb part client.part && ltb client.known.number view.number))
  where
    by_test : (test : Bool) → Goes world (client_hears world id (cond test (turns_to client view) (unheard client))) (λ c. cond (eqb id.0 c.0) [] [])
    by_test true = takes_nothing world id client (turns_to client view) at refl refl
    by_test false = takes_nothing world id client (unheard client) at refl refl

message_goes : (past : List Turn) (world : World) (from : nodes.Node) (id : ClientId) (client : Client) (message : Message) → client_at world id ≡ Some client
    → IsTrueMessage past world.history from (AtClient id) message
    → Goes world (client_hears world id (message_to client from message)) (λ c. cond (eqb id.0 c.0) (unsure_message client from message) [])
message_goes past world from id client (Replied seq placed) at said = takes_known world id client _ [] at said.caller_low (reply_right id client client.call seq placed)
message_goes past world from id client (Answered q part told) at said =
    takes_known world id client _ (unsure_from client from q part told) at said.asked.caller_low (from_right id client from q part told)
message_goes past world from id client (Refer q part view) at said = refer_nothing world id client client.asking q part view at
message_goes past world from id client other at said = takes_nothing world id client (unheard client) at refl refl

client_goes : (past : List Turn) (world : World) (id : ClientId) (packet : Packet) (found : Option Client) → client_at world id ≡ found
    → IsTrueMessage past world.history packet.from (AtClient id) packet.message
    → Goes world (arrives_at_client world id packet found) (λ c. cond (eqb id.0 c.0) (unsure_client found packet) [])
client_goes past world id packet None at said = still world (quiet world) (λ c. cond (eqb id.0 c.0) [] []) refl refl refl (λ c. nothing_unsure (eqb id.0 c.0))
client_goes past world id packet (Some client) at said = message_goes past world packet.from id client packet.message at said

-- nobody is unsure of anything to a client
abbrev no_answer : ClientId → List ℕ
no_answer client = []

joined_goes : (world : World) (from joiner : ServerId) → Goes world (joined_at_manager world from joiner) no_answer
joined_goes world from joiner = by_test (may_promote world.manager.current from joiner)
  where
    by_test : (test : Bool) → Goes world (cond test (manager_tells world (promotes world.manager joiner)) (quiet world)) no_answer
    by_test true = still world (manager_tells world (promotes world.manager joiner)) no_answer refl refl refl (λ c. refl)
    by_test false = still world (quiet world) no_answer refl refl refl (λ c. refl)

told_goes : (world : World) (from : ServerId) (message : Message) → Goes world (told_by_server world from message) no_answer
told_goes world from (Joined joiner) = joined_goes world from joiner
told_goes world from other = still world (quiet world) no_answer refl refl refl (λ c. refl)

manager_goes : (world : World) (from : nodes.Node) (message : Message) → Goes world (arrives_at_manager world from message) no_answer
manager_goes world AtManager message = still world (quiet world) no_answer refl refl refl (λ c. refl)
manager_goes world (AtClient client) message = still world (quiet world) no_answer refl refl refl (λ c. refl)
manager_goes world (AtServer server) message = told_goes world server message

server_goes : (world : World) (id : ServerId) (packet : Packet) (found : Option Server) → Goes world (arrives_at_server world id packet found) no_answer
server_goes world id packet None = still world (quiet world) no_answer refl refl refl (λ c. refl)
server_goes world id packet (Some server) = still world (arrives_at_server world id packet (Some server)) no_answer refl refl refl (λ c. refl)

arrives_goes : (past : List Turn) (world : World) (to : nodes.Node) (packet : Packet) → IsTrueMessage past world.history packet.from to packet.message
    → Goes world (arrives world to packet) (λ c. unsure_at c world to packet)
arrives_goes past world AtManager packet said = manager_goes world packet.from packet.message
arrives_goes past world (AtClient client) packet said = client_goes past world client packet (client_at world client) refl said
arrives_goes past world (AtServer server) packet said = server_goes world server packet (server_at world server)

-- the marks of packets are no matter
marked_goes : (world : World) (delivered : List Bool) (outcome : Outcome) (unsure : ClientId → List ℕ)
    → Goes (record world { delivered = delivered }) outcome unsure → Goes world outcome unsure
marked_goes world delivered outcome unsure goes =
    let its = goes.order in
    record { taken = goes.taken; order = record { seen = its.seen; grows = its.grows; known = its.known; order = its.order } }

delivers_goes : (past : List Turn) (world : World) (k : ℕ) (found : Option Packet) → packet_at world k ≡ found → AreFacts past world
    → Goes world (delivers world k found) (λ c. unsure_packet c world found)
delivers_goes past world k None is facts = still world (quiet world) no_answer refl refl refl (λ c. refl)
delivers_goes past world k (Some packet) is facts =
    let marks = marked world.delivered k in
    let now = record world { delivered = marks } in
    let said = at_index (IsTruePacket past world.history) world.bag (k - 1) packet facts.packets is in
    marked_goes world marks (arrives now packet.to packet) (λ c. unsure_at c now packet.to packet) (arrives_goes past now packet.to packet said)

calls_go : (world : World) (id : ClientId) (command : Command) (found : Option Client) → client_at world id ≡ found → Goes world (client_calls world id command found) no_answer
calls_go world id command None at = still world (quiet world) no_answer refl refl refl (λ c. refl)
calls_go world id command (Some client) at =
    record {
      taken = refl;
      order = silent world (client_sends world id (begins client command)) no_answer refl (λ c. seen_kept world.clients (id.0 - 1) client (begins client command).after at refl (c.0 - 1)) (λ c. refl);
    }

asks_go : (past : List Turn) (world : World) (id : ClientId) (server : ServerId) (pairs : List (EventId × EventId)) (found : Option Client) → client_at world id ≡ found
    → 1 ≤ id.0 → AreFacts past world → Goes world (client_asks world id server pairs found) no_answer
asks_go past world id server pairs None at low facts = still world (quiet world) no_answer refl refl refl (λ c. refl)
asks_go past world id server pairs (Some client) at low facts =
    let known = facts.clients (id.0 - 1) client at in
    hears_in_order world id client (asks client server pairs) no_answer at low (asks_right world.history id client server pairs known.within known.cache) (λ c differ. refl)

retries_go : (world : World) (server : ServerId) (found : Option Client) → Goes world (client_retries world server found) no_answer
retries_go world server None = still world (quiet world) no_answer refl refl refl (λ c. refl)
retries_go world server (Some client) = still world (client_retries world server (Some client)) no_answer refl refl refl (λ c. refl)

works_go : (world : World) (id : ServerId) (found : Option Server) → Goes world (works world id found) no_answer
works_go world id None = still world (quiet world) no_answer refl refl refl (λ c. refl)
works_go world id (Some server) = still world (works world id (Some server)) no_answer refl refl refl (λ c. refl)

ticks_go : (world : World) (id : ServerId) (found : Option Server) → Goes world (ticks_at world id found) no_answer
ticks_go world id None = still world (quiet world) no_answer refl refl refl (λ c. refl)
ticks_go world id (Some server) = still world (ticks_at world id (Some server)) no_answer refl refl refl (λ c. refl)

tick_goes : (world : World) (who : Option ServerId) → Goes world (ticks world who) no_answer
tick_goes world None = still world (ticks world None) no_answer refl refl refl (λ c. refl)
tick_goes world (Some server) = ticks_go world server (server_at world server)

notices_go : (world : World) (found : Option Server) → Goes world (notices world found) no_answer
notices_go world None = still world (quiet world) no_answer refl refl refl (λ c. refl)
notices_go world (Some server) = still world (notices world (Some server)) no_answer refl refl refl (λ c. refl)

shows_go : (world : World) (id : ServerId) (found : Option Server) → Goes world (shows world id found) no_answer
shows_go world id None = still world (quiet world) no_answer refl refl refl (λ c. refl)
shows_go world id (Some server) = still world (shows world id (Some server)) no_answer refl refl refl (λ c. refl)

learns_go : (world : World) (id : ClientId) (found : Option Client) → client_at world id ≡ found → Goes world (learns_view world id found) no_answer
learns_go world id None at = still world (quiet world) no_answer refl refl refl (λ c. refl)
learns_go world id (Some client) at = deaf world id client (unheard (learns client world.manager.current)) no_answer at refl refl (λ c. refl)

act_goes : (past : List Turn) (world : World) (event : Event) → IsEvent event → AreFacts past world
    → Goes world (act world event) (λ c. unsure_by c world event None)
act_goes past world (Call client command) fit facts = calls_go world client command (client_at world client) refl
act_goes past world (Query client server pairs) fit facts = asks_go past world client server pairs (client_at world client) refl fit.client_fits.low facts
act_goes past world (Retry client server) fit facts = retries_go world server (client_at world client)
act_goes past world (Deliver k) fit facts = delivers_goes past world k (packet_at world k) refl facts
act_goes past world (Lose k) fit facts = still world (act world (Lose k)) no_answer refl refl refl (λ c. refl)
act_goes past world (Tick who) fit facts = tick_goes world who
act_goes past world (Work server workers) fit facts = works_go world server (server_at world server)
act_goes past world (Stop server) fit facts = still world (act world (Stop server)) no_answer refl refl refl (λ c. refl)
act_goes past world (Notice server) fit facts = notices_go world (server_at world server)
act_goes past world (Show server) fit facts = shows_go world server (server_at world server)
act_goes past world Join fit facts = still world (act world Join) no_answer refl refl refl (λ c. refl)
act_goes past world Round fit facts = still world (quiet world) no_answer refl refl refl (λ c. refl)
act_goes past world (Learn client) fit facts = learns_go world client (client_at world client) refl

-- a refused step tells nothing
refused_unsure : (client : ClientId) (world : World) (event : Event) (why : Refusal) → unsure_by client world event (Some why) ≡ []
refused_unsure client world (Deliver k) why = refl
refused_unsure client world event why = refl

step_cases : (past : List Turn) (world : World) (event : Event) (refusal : Option Refusal) → IsEvent event → AreFacts past world
    → (let outcome = unless world refusal (act world event) in IsInOrder world outcome (λ c. unsure_by c world event outcome.refused))
step_cases past world event None fit facts =
    let goes = act_goes past world event fit facts in
    let its = goes.order in
    subst (λ refused. IsInOrder world (act world event) (λ c. unsure_by c world event refused)) (sym goes.taken) its
step_cases past world event (Some why) fit facts =
    silent world (refuses world why) (λ c. unsure_by c world event (Some why)) refl (λ c. refl) (λ c. refused_unsure c world event why)

-- what a step tells is in order, and by it each client has seen what it has heard of
pub step_in_order : (past : List Turn) (world : World) (event : Event) → IsEvent event → AreFacts past world
    → (let outcome = step world event in IsInOrder world outcome (λ c. unsure_by c world event outcome.refused))
step_in_order past world event fit facts = step_cases past world event (refusal_of world event) fit facts
