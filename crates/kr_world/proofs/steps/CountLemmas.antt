-- No step begins more than one query of a client.
use Rattle.std.proofs.Common.{◌≡◌, ℕ, ◌+◌, ◌-◌, ◌≤◌, Bool, true, false, cond, ◌&&◌, eqb, ltb, List, refl, arith}
use Rattle.std.specs.Prelude.{Option, None, Some, slice_set}
use Rattle.std.proofs.lemmas.List.Elements.{All-map, All-set, All-weaker}
use Rattle.kr_order.specs.declared.ids.ClientId.{ClientId}
use Rattle.kr_order.specs.declared.ids.ServerId.{ServerId}
use Rattle.kr_order.specs.declared.ids.EventId.{EventId}
use Rattle.kr_order.specs.declared.answer.Teller.{Teller}
use Rattle.kr_order.specs.declared.answer.Teller.TheVariants as teller
use Rattle.kr_order.specs.declared.answer.Told.{Told}
use Rattle.kr_order.specs.declared.history.Command.{Command}
use Rattle.kr_order.specs.declared.history.Placed.{Placed}
use Rattle.kr_order.specs.declared.message.Node as nodes
use Rattle.kr_order.specs.declared.message.Node.TheVariants.{Manager, Client as ToClient, Server as ToServer}
use Rattle.kr_order.specs.declared.message.Message.{Message}
use Rattle.kr_order.specs.declared.message.Message.TheVariants.{Replied, Answered, Refer, Joined}
use Rattle.kr_order.specs.declared.message.Packet.{Packet}
use Rattle.kr_order.specs.declared.view.View.{View}
use Rattle.kr_protocol.specs.Server.{Server}
use Rattle.kr_protocol.specs.Client.{Client, new_client, unheard, closes, after_reply, may_answer_all, answered, after_answers, answers_from, turns_to, after_refer, message_to, client_takes, begins, asks, learns}
use Rattle.script_lang.specs.declared.script.Event.{Event}
use Rattle.script_lang.specs.declared.script.Event.TheVariants.{Call, Query, Retry, Deliver, Lose, Tick, Work, Stop, Notice, Show, Join, Round, Learn}
use Rattle.kr_world.specs.declared.refusal.Refusal.{Refusal}
use Rattle.kr_order.specs.View.{first_view}
use Rattle.kr_order.specs.Numbers.{numbers_to}
use Rattle.kr_order.specs.Marks.{marked}
use Rattle.kr_world.specs.World.{World, first_world, client_at, server_at, packet_at}
use Rattle.kr_world.specs.Step.{Outcome, refusal_of, step, client_calls, client_asks, client_retries, arrives_at_client, arrives_at_server, arrives, delivers, works, ticks, ticks_at, shows, act, unless, notices, learns_view, quiet, manager_tells, joined_at_manager, told_by_server, arrives_at_manager}
use Rattle.kr_world.specs.Sound.{HaveBegun, QueriesAreCounted}
use Rattle.kr_world.proofs.steps.ListFacts.{all_of}
use Rattle.kr_world.proofs.steps.StepLemmas.{at_index}
use Rattle.kr_protocol.specs.Manager.{may_promote, promotes}

-- what a client hears begins no query
reply_q : (client : Client) (call : Option Command) (seq : ℕ) (placed : Placed) → (after_reply client call seq placed).after.q ≡ client.q
reply_q client None seq placed = refl
reply_q client (Some command) seq placed = by_test (eqb seq client.seq)
  where
    by_test : (test : Bool) → (cond test (closes client placed) (unheard client)).after.q ≡ client.q
    by_test true = refl
    by_test false = refl

answers_q : (client : Client) (asking : Option (List (EventId × EventId))) (by : Teller) (q part : ℕ) (told : Told)
    → (after_answers client asking by q part told).after.q ≡ client.q
answers_q client None by q part told = refl
answers_q client (Some pairs) by q part told = by_test (eqb q client.q && (eqb part client.part && may_answer_all part pairs told.answers))
  where
    by_test : (test : Bool) → (cond test (answered client pairs by told) (unheard client)).after.q ≡ client.q
    by_test true = refl
    by_test false = refl

from_q : (client : Client) (from : nodes.Node) (q part : ℕ) (told : Told) → (answers_from client from q part told).after.q ≡ client.q
from_q client Manager q part told = refl
from_q client (ToClient other) q part told = refl
from_q client (ToServer server) q part told = answers_q client client.asking (teller.Server server) q part told

refer_q : (client : Client) (asking : Option (List (EventId × EventId))) (q part : ℕ) (view : View)
    → (after_refer client asking q part view).after.q ≡ client.q
refer_q client None q part view = refl
refer_q client (Some pairs) q part view = by_test (eqb q client.q && (eqb part client.part && ltb client.known.number view.number))
  where
    by_test : (test : Bool) → (cond test (turns_to client view) (unheard client)).after.q ≡ client.q
    by_test true = refl
    by_test false = refl

heard_q : (client : Client) (from : nodes.Node) (message : Message) → (message_to client from message).after.q ≡ client.q
heard_q client from (Replied seq placed) = reply_q client client.call seq placed
heard_q client from (Answered q part told) = from_q client from q part told
heard_q client from (Refer q part view) = refer_q client client.asking q part view
heard_q client from other = refl

-- so many queries at the most have been begun by each client after the step
abbrev CountsOn : ℕ → Outcome → Type 0
CountsOn n outcome = HaveBegun n outcome.after.clients

pub count_on : (n : ℕ) (clients : List Client) → HaveBegun n clients → HaveBegun (n + 1) clients
count_on n clients known = All-weaker (λ c. c.q ≤ n) (λ c. c.q ≤ n + 1) (λ c le. omega arith) clients known

-- one client goes on
one_counts : (n : ℕ) (clients : List Client) (i : ℕ) (after : Client) → after.q ≤ n → HaveBegun n clients
    → HaveBegun n (slice_set clients i after)
one_counts n clients i after le known = All-set (λ c. c.q ≤ n) clients i after le known

own_count : (n : ℕ) (world : World) (id : ClientId) (client : Client) → client_at world id ≡ Some client → HaveBegun n world.clients
    → client.q ≤ n
own_count n world id client is known = at_index (λ c. c.q ≤ n) world.clients (id.0 - 1) client known is

calls_count : (n : ℕ) (world : World) (id : ClientId) (command : Command) (found : Option Client) → client_at world id ≡ found
    → HaveBegun n world.clients → CountsOn n (client_calls world id command found)
calls_count n world id command None is known = known
calls_count n world id command (Some client) is known =
    let le = own_count n world id client is known in
    one_counts n world.clients (id.0 - 1) (begins client command).after (omega arith) known

asks_count : (n : ℕ) (world : World) (id : ClientId) (server : ServerId) (pairs : List (EventId × EventId)) (found : Option Client)
    → client_at world id ≡ found → HaveBegun n world.clients → CountsOn (n + 1) (client_asks world id server pairs found)
asks_count n world id server pairs None is known = count_on n world.clients known
asks_count n world id server pairs (Some client) is known =
    let le = own_count n world id client is known in
    one_counts (n + 1) world.clients (id.0 - 1) (asks client server pairs).after (omega arith) (count_on n world.clients known)

retries_count : (n : ℕ) (world : World) (server : ServerId) (found : Option Client) → HaveBegun n world.clients
    → CountsOn n (client_retries world server found)
retries_count n world server None known = known
retries_count n world server (Some client) known = known

hears_count : (n : ℕ) (world : World) (id : ClientId) (packet : Packet) (found : Option Client) → client_at world id ≡ found
    → HaveBegun n world.clients → CountsOn n (arrives_at_client world id packet found)
hears_count n world id packet None is known = known
hears_count n world id packet (Some client) is known =
    let le = own_count n world id client is known in
    let same = heard_q client packet.from packet.message in
    one_counts n world.clients (id.0 - 1) (client_takes client packet).after (omega arith) known

takes_count : (n : ℕ) (world : World) (id : ServerId) (packet : Packet) (found : Option Server) → HaveBegun n world.clients
    → CountsOn n (arrives_at_server world id packet found)
takes_count n world id packet None known = known
takes_count n world id packet (Some server) known = known

joined_count : (n : ℕ) (world : World) (from joiner : ServerId) → HaveBegun n world.clients → CountsOn n (joined_at_manager world from joiner)
joined_count n world from joiner known = by_test (may_promote world.manager.current from joiner)
  where
    by_test : (test : Bool) → CountsOn n (cond test (manager_tells world (promotes world.manager joiner)) (quiet world))
    by_test true = known
    by_test false = known

told_count : (n : ℕ) (world : World) (from : ServerId) (message : Message) → HaveBegun n world.clients → CountsOn n (told_by_server world from message)
told_count n world from (Joined joiner) known = joined_count n world from joiner known
told_count n world from other known = known

manager_count : (n : ℕ) (world : World) (from : nodes.Node) (message : Message) → HaveBegun n world.clients → CountsOn n (arrives_at_manager world from message)
manager_count n world Manager message known = known
manager_count n world (ToClient client) message known = known
manager_count n world (ToServer server) message known = told_count n world server message known

arrives_count : (n : ℕ) (world : World) (to : nodes.Node) (packet : Packet) → HaveBegun n world.clients
    → CountsOn n (arrives world to packet)
arrives_count n world Manager packet known = manager_count n world packet.from packet.message known
arrives_count n world (ToClient client) packet known = hears_count n world client packet (client_at world client) refl known
arrives_count n world (ToServer server) packet known = takes_count n world server packet (server_at world server) known

delivers_count : (n : ℕ) (world : World) (k : ℕ) (found : Option Packet) → HaveBegun n world.clients → CountsOn n (delivers world k found)
delivers_count n world k None known = known
delivers_count n world k (Some packet) known = arrives_count n (record world { delivered = marked world.delivered k }) packet.to packet known

works_count : (n : ℕ) (world : World) (id : ServerId) (found : Option Server) → HaveBegun n world.clients → CountsOn n (works world id found)
works_count n world id None known = known
works_count n world id (Some server) known = known

ticks_count : (n : ℕ) (world : World) (id : ServerId) (found : Option Server) → HaveBegun n world.clients → CountsOn n (ticks_at world id found)
ticks_count n world id None known = known
ticks_count n world id (Some server) known = known

turn_count : (n : ℕ) (world : World) (who : Option ServerId) → HaveBegun n world.clients → CountsOn n (ticks world who)
turn_count n world None known = known
turn_count n world (Some server) known = ticks_count n world server (server_at world server) known

shows_count : (n : ℕ) (world : World) (id : ServerId) (found : Option Server) → HaveBegun n world.clients → CountsOn n (shows world id found)
shows_count n world id None known = known
shows_count n world id (Some server) known = known

notices_count : (n : ℕ) (world : World) (found : Option Server) → HaveBegun n world.clients → CountsOn n (notices world found)
notices_count n world None known = known
notices_count n world (Some server) known = known

learns_count : (n : ℕ) (world : World) (id : ClientId) (found : Option Client) → client_at world id ≡ found → HaveBegun n world.clients → CountsOn n (learns_view world id found)
learns_count n world id None is known = known
learns_count n world id (Some client) is known =
    let le = own_count n world id client is known in
    one_counts n world.clients (id.0 - 1) (learns client world.manager.current) (omega arith) known

-- an event that is no query
abbrev pub AsksNothing : Event → Type 0
AsksNothing (Query client server pairs) = ⊥
AsksNothing event = Unit {0}

act_kept : (n : ℕ) (world : World) (event : Event) → AsksNothing event → HaveBegun n world.clients → CountsOn n (act world event)
act_kept n world (Call client command) _ known = calls_count n world client command (client_at world client) refl known
act_kept n world (Query client server pairs) asks known = absurd asks
act_kept n world (Retry client server) _ known = retries_count n world server (client_at world client) known
act_kept n world (Deliver k) _ known = delivers_count n world k (packet_at world k) known
act_kept n world (Lose k) _ known = known
act_kept n world (Tick who) _ known = turn_count n world who known
act_kept n world (Work server workers) _ known = works_count n world server (server_at world server) known
act_kept n world (Stop server) _ known = known
act_kept n world (Notice server) _ known = notices_count n world (server_at world server) known
act_kept n world (Show server) _ known = shows_count n world server (server_at world server) known
act_kept n world Join _ known = known
act_kept n world Round _ known = known
act_kept n world (Learn client) _ known = learns_count n world client (client_at world client) refl known

act_count : (n : ℕ) (world : World) (event : Event) → HaveBegun n world.clients → HaveBegun (n + 1) (act world event).after.clients
act_count n world (Query client server pairs) known = asks_count n world client server pairs (client_at world client) refl known
act_count n world event known = count_on n (act world event).after.clients (act_kept n world event tt known)

-- a step that is no query begins none
pub queries_kept : (n : ℕ) (world : World) (event : Event) → AsksNothing event → HaveBegun n world.clients → HaveBegun n (step world event).after.clients
queries_kept n world event none known = by_refusal (refusal_of world event)
  where
    by_refusal : (refusal : Option Refusal) → HaveBegun n (unless world refusal (act world event)).after.clients
    by_refusal None = act_kept n world event none known
    by_refusal (Some why) = known

pub queries_counted : QueriesAreCounted
queries_counted n world event known = by_refusal (refusal_of world event)
  where
    by_refusal : (refusal : Option Refusal) → HaveBegun (n + 1) (unless world refusal (act world event)).after.clients
    by_refusal None = act_count n world event known
    by_refusal (Some why) = count_on n world.clients known

-- no client has begun a query before the first step
pub none_begun : (servers clients : ℕ) → HaveBegun 0 (first_world servers clients).clients
none_begun servers clients =
    let make : ℕ → Client = λ m. new_client (first_view servers) (record { 0 = m }) in
    All-map (λ c. c.q ≤ 0) make (numbers_to clients) (all_of (λ m. (make m).q ≤ 0) (λ m. omega arith) (numbers_to clients))
