-- No packet of a run refers to a view that is newer than the manager's.
use Rattle.kr_order.specs.declared.message.Node.TheVariants.{Manager as ToManager, Client as ToClient, Server as ToServer}
use Rattle.kr_order.specs.declared.message.Node as nodes
use Rattle.kr_protocol.specs.Client.{Client, asked_again, tried_again, retries, begins, asks, unheard, client_takes, after_reply, after_answers, answers_from, after_refer, message_to, closes, answered, turns_to, last, may_answer_all}
use Rattle.kr_protocol.specs.Server.{Server, server_takes, server_works, server_ticks, view_number}
use Rattle.std.proofs.Common.{Bool, List, [], arith, cond, eqb, false, ltb, refl, subst, sym, true, ℕ, ◌&&◌, ◌++◌, ◌-◌, ◌≡◌, ◌≤◌}
use Rattle.std.specs.Prelude.{All, None, Option, Some, slice_get}
use Rattle.std.proofs.lemmas.List.{append-nil}
use Rattle.std.proofs.lemmas.List.Elements.{All-append, All-cons, All-map, All-nil, All-weaker}
use Rattle.kr_order.specs.declared.answer.Teller.{Teller}
use Rattle.kr_order.specs.declared.answer.Told.{Told}
use Rattle.kr_order.specs.declared.history.Command.{Command}
use Rattle.kr_order.specs.declared.history.Placed.{Placed}
use Rattle.kr_order.specs.declared.ids.EventId.{EventId}
use Rattle.kr_order.specs.declared.ids.ServerId.{ServerId}
use Rattle.kr_order.specs.declared.message.Message.{Message}
use Rattle.kr_order.specs.declared.message.Message.TheVariants.{Answered, Ask, Joined, Refer, Replied}
use Rattle.kr_order.specs.declared.message.Node.{Node}
use Rattle.kr_order.specs.declared.message.Packet.{Packet}
use Rattle.kr_order.specs.declared.view.View.{View}
use Rattle.kr_protocol.specs.Manager.{adds, announces, may_promote, named_by, promotes, removes, view_packet}
use Rattle.script_lang.specs.declared.script.Event.{Event}
use Rattle.script_lang.specs.declared.script.Event.TheVariants.{Call, Deliver, Join, Learn, Lose, Notice, Query, Retry, Round, Show, Stop, Tick, Work}
use Rattle.kr_world.proofs.steps.BagLemmas.{delivered_sound}
use Rattle.kr_world.proofs.chain.ChainLemmas.{chain_of, own_old}
use Rattle.kr_world.proofs.steps.ListFacts.{all_of}
use Rattle.kr_world.specs.Sound.{IsSound}
use Rattle.kr_world.specs.Step.{act, arrives, arrives_at_client, arrives_at_manager, arrives_at_server, client_asks, client_calls, client_retries, delivers, learns_view, manager_tells, notices, quiet, refusal_of, shows, step, ticks_at, told_by_server, unless, works}
use Rattle.kr_order.specs.Marks.{marked}
use Rattle.kr_world.specs.World.{World, client_at, is_stopped, packet_at, server_at}
use Rattle.kr_world.specs.declared.refusal.Refusal.{Refusal}
use Rattle.kr_calm.proofs.SpeakLemmas.{MayBeSaid, MayBeSent, takes_may, tick_may, works_may}
use Rattle.kr_order.specs.declared.answer.Teller.TheVariants as teller

abbrev pub IsNoNewer : ℕ → Message → Type 0
IsNoNewer n (Refer q part view) = view.number ≤ n
IsNoNewer n other = Unit {0}

abbrev pub RefersBack : ℕ → Packet → Type 0
RefersBack n packet = IsNoNewer n packet.message

abbrev pub AllReferBack : World → Type 0
AllReferBack world = All (RefersBack world.manager.current.number) world.bag

later_refers : (n m : ℕ) → n ≤ m → (packet : Packet) → RefersBack n packet → RefersBack m packet
later_refers n m le packet = by_message packet.message
  where
    by_message : (message : Message) → IsNoNewer n message → IsNoNewer m message
    by_message (Refer q part view) is = omega arith
    by_message other is = tt

said_refers : (n : ℕ) (packet : Packet) → MayBeSent n packet → RefersBack n packet
said_refers n packet = by_message packet.message
  where
    by_message : (message : Message) → MayBeSaid n message → IsNoNewer n message
    by_message (Refer q part view) is = is
    by_message (Ask q part pairs) is = absurd is
    by_message other is = tt

-- more packets, and a manager whose view is no older
with_more : (n m : ℕ) (bag sent : List Packet) → n ≤ m → All (RefersBack n) bag → All (RefersBack m) sent → All (RefersBack m) (bag ++ sent)
with_more n m bag sent le old new = All-append (RefersBack m) bag sent (All-weaker (RefersBack n) (RefersBack m) (later_refers n m le) bag old) new

same_more : (n : ℕ) (bag sent : List Packet) → All (RefersBack n) bag → All (RefersBack n) sent → All (RefersBack n) (bag ++ sent)
same_more n bag sent old new = All-append (RefersBack n) bag sent old new

no_more : (n : ℕ) (bag : List Packet) → All (RefersBack n) bag → All (RefersBack n) (bag ++ [])
no_more n bag old = subst (All (RefersBack n)) (sym (append-nil bag)) old

-- clients refer to none
again_refers : (n : ℕ) (client : Client) (server : ServerId) (asking : Option (List (EventId × EventId))) → All (RefersBack n) (asked_again client server asking)
again_refers n client server None = All-nil (RefersBack n)
again_refers n client server (Some pairs) = All-cons (RefersBack n) _ [] tt (All-nil (RefersBack n))

tried_refers : (n : ℕ) (client : Client) (server : ServerId) (call : Option Command) → All (RefersBack n) (tried_again client server call)
tried_refers n client server None = again_refers n client server client.asking
tried_refers n client server (Some command) = All-cons (RefersBack n) _ [] tt (All-nil (RefersBack n))

reply_refers : (n : ℕ) (client : Client) (call : Option Command) (seq : ℕ) (placed : Placed) → All (RefersBack n) (after_reply client call seq placed).sent
reply_refers n client None seq placed = All-nil (RefersBack n)
reply_refers n client (Some command) seq placed = by_test (eqb seq client.seq)
  where
    by_test : (test : Bool) → All (RefersBack n) (cond test (closes client placed) (unheard client)).sent
    by_test true = All-nil (RefersBack n)
    by_test false = All-nil (RefersBack n)

answers_refer : (n : ℕ) (client : Client) (asking : Option (List (EventId × EventId))) (by : Teller) (q part : ℕ) (told : Told) → All (RefersBack n) (after_answers client asking by q part told).sent
answers_refer n client None by q part told = All-nil (RefersBack n)
answers_refer n client (Some pairs) by q part told = by_test (eqb q client.q && (eqb part client.part && may_answer_all part pairs told.answers))
  where
    by_test : (test : Bool) → All (RefersBack n) (cond test (answered client pairs by told) (unheard client)).sent
    by_test true = let after = (answered client pairs by told).after in again_refers n after (last client) after.asking
    by_test false = All-nil (RefersBack n)

from_refers : (n : ℕ) (client : Client) (from : nodes.Node) (q part : ℕ) (told : Told) → All (RefersBack n) (answers_from client from q part told).sent
from_refers n client ToManager q part told = All-nil (RefersBack n)
from_refers n client (ToClient other) q part told = All-nil (RefersBack n)
from_refers n client (ToServer server) q part told = answers_refer n client client.asking (teller.Server server) q part told

refer_refers : (n : ℕ) (client : Client) (asking : Option (List (EventId × EventId))) (q part : ℕ) (view : View) → All (RefersBack n) (after_refer client asking q part view).sent
refer_refers n client None q part view = All-nil (RefersBack n)
refer_refers n client (Some pairs) q part view = by_test (eqb q client.q && (eqb part client.part && ltb client.known.number view.number))
  where
    by_test : (test : Bool) → All (RefersBack n) (cond test (turns_to client view) (unheard client)).sent
    by_test true = let after = (turns_to client view).after in again_refers n after (last after) after.asking
    by_test false = All-nil (RefersBack n)

hears_refers : (n : ℕ) (client : Client) (packet : Packet) → All (RefersBack n) (client_takes client packet).sent
hears_refers n client packet = by_message packet.message
  where
    by_message : (message : Message) → All (RefersBack n) (message_to client packet.from message).sent
    by_message (Replied seq placed) = reply_refers n client client.call seq placed
    by_message (Answered q part told) = from_refers n client packet.from q part told
    by_message (Refer q part view) = refer_refers n client client.asking q part view
    by_message other = All-nil (RefersBack n)

-- the manager refers to none
announced_refers : (n : ℕ) (view : View) → All (RefersBack n) (announces view)
announced_refers n view = All-map (RefersBack n) (view_packet view) (named_by view) (all_of (λ id. RefersBack n (view_packet view id)) (λ id. tt) (named_by view))

old_view : (world : World) (i : ℕ) (server : Server) → IsSound world → slice_get world.servers i ≡ Some server → view_number server.view ≤ world.manager.current.number
old_view world i server sound at = own_old (is_stopped world) world.manager world.servers (chain_of world sound) i server at

takes_refer : (world : World) (id : ServerId) (packet : Packet) (found : Option Server) → server_at world id ≡ found → IsSound world → AllReferBack world
    → AllReferBack (arrives_at_server world id packet found).after
takes_refer world id packet None is sound old = old
takes_refer world id packet (Some server) is sound old =
    let n = world.manager.current.number in
    let sent = (server_takes server packet).sent in
    same_more n world.bag sent old (All-weaker (MayBeSent n) (RefersBack n) (said_refers n) sent (takes_may n server packet (old_view world (id.0 - 1) server sound is)))

arrives_refer : (world : World) (to : nodes.Node) (packet : Packet) → IsSound world → AllReferBack world → AllReferBack (arrives world to packet).after
arrives_refer world ToManager packet sound old = by_sender packet.from packet.message
  where
    joined : (from joiner : ServerId) (test : Bool) → AllReferBack (cond test (manager_tells world (promotes world.manager joiner)) (quiet world)).after
    joined from joiner true =
        let manager = promotes world.manager joiner in
        with_more world.manager.current.number manager.current.number world.bag (announces manager.current) (omega arith) old (announced_refers manager.current.number manager.current)
    joined from joiner false = old

    by_message : (from : ServerId) (message : Message) → AllReferBack (told_by_server world from message).after
    by_message from (Joined joiner) = joined from joiner (may_promote world.manager.current from joiner)
    by_message from other = old

    by_sender : (from : nodes.Node) (message : Message) → AllReferBack (arrives_at_manager world from message).after
    by_sender ToManager message = old
    by_sender (ToClient client) message = old
    by_sender (ToServer server) message = by_message server message
arrives_refer world (ToClient client) packet sound old = by_found (client_at world client)
  where
    by_found : (found : Option Client) → AllReferBack (arrives_at_client world client packet found).after
    by_found None = old
    by_found (Some c) = same_more world.manager.current.number world.bag (client_takes c packet).sent old (hears_refers world.manager.current.number c packet)
arrives_refer world (ToServer server) packet sound old = takes_refer world server packet (server_at world server) refl sound old

delivers_refer : (world : World) (k : ℕ) (found : Option Packet) → IsSound world → AllReferBack world → AllReferBack (delivers world k found).after
delivers_refer world k None sound old = old
delivers_refer world k (Some packet) sound old = arrives_refer (record world { delivered = marked world.delivered k }) packet.to packet (delivered_sound world k sound) old

tick_refers : (world : World) (id : ServerId) (found : Option Server) → AllReferBack world → AllReferBack (ticks_at world id found).after
tick_refers world id None old = old
tick_refers world id (Some server) old =
    let n = world.manager.current.number in
    let sent = (server_ticks server).sent in
    same_more n world.bag sent old (All-weaker (MayBeSent n) (RefersBack n) (said_refers n) sent (tick_may n server))

work_refers : (world : World) (id : ServerId) (found : Option Server) → server_at world id ≡ found → IsSound world → AllReferBack world → AllReferBack (works world id found).after
work_refers world id None is sound old = old
work_refers world id (Some server) is sound old =
    let n = world.manager.current.number in
    let sent = (server_works server).sent in
    same_more n world.bag sent old (All-weaker (MayBeSent n) (RefersBack n) (said_refers n) sent (works_may n server (old_view world (id.0 - 1) server sound is)))

act_refers : (world : World) (event : Event) → IsSound world → AllReferBack world → AllReferBack (act world event).after
act_refers world (Call client command) sound old = by_found (client_at world client)
  where
    n : ℕ
    n = world.manager.current.number

    by_found : (found : Option Client) → AllReferBack (client_calls world client command found).after
    by_found None = old
    by_found (Some c) = same_more n world.bag (begins c command).sent old (All-cons (RefersBack n) _ [] tt (All-nil (RefersBack n)))
act_refers world (Query client server pairs) sound old = by_found (client_at world client)
  where
    n : ℕ
    n = world.manager.current.number

    by_found : (found : Option Client) → AllReferBack (client_asks world client server pairs found).after
    by_found None = old
    by_found (Some c) = let after = (asks c server pairs).after in same_more n world.bag (asks c server pairs).sent old (again_refers n after server after.asking)
act_refers world (Retry client server) sound old = by_found (client_at world client)
  where
    n : ℕ
    n = world.manager.current.number

    by_found : (found : Option Client) → AllReferBack (client_retries world server found).after
    by_found None = old
    by_found (Some c) = same_more n world.bag (retries c server) old (tried_refers n c server c.call)
act_refers world (Deliver k) sound old = delivers_refer world k (packet_at world k) sound old
act_refers world (Lose k) sound old = old
act_refers world (Tick None) sound old =
    let n = world.manager.current.number in same_more n world.bag (announces world.manager.current) old (announced_refers n world.manager.current)
act_refers world (Tick (Some server)) sound old = tick_refers world server (server_at world server) old
act_refers world (Work server workers) sound old = work_refers world server (server_at world server) refl sound old
act_refers world (Stop server) sound old = old
act_refers world (Notice server) sound old = by_found (server_at world server)
  where
    by_found : (found : Option Server) → AllReferBack (notices world found).after
    by_found None = old
    by_found (Some s) =
        let manager = removes world.manager s.id in
        with_more world.manager.current.number manager.current.number world.bag (announces manager.current) (omega arith) old (announced_refers manager.current.number manager.current)
act_refers world (Show server) sound old = by_found (server_at world server)
  where
    by_found : (found : Option Server) → AllReferBack (shows world server found).after
    by_found None = old
    by_found (Some s) = old
act_refers world Join sound old =
    let manager = adds world.manager in
    with_more world.manager.current.number manager.current.number world.bag (announces manager.current) (omega arith) old (announced_refers manager.current.number manager.current)
act_refers world Round sound old = old
act_refers world (Learn client) sound old = by_found (client_at world client)
  where
    by_found : (found : Option Client) → AllReferBack (learns_view world client found).after
    by_found None = old
    by_found (Some c) = no_more world.manager.current.number world.bag old

-- every step keeps it so
pub step_refers : (world : World) (event : Event) → IsSound world → AllReferBack world → AllReferBack (step world event).after
step_refers world event sound old = by_refusal (refusal_of world event)
  where
    by_refusal : (refusal : Option Refusal) → AllReferBack (unless world refusal (act world event)).after
    by_refusal None = act_refers world event sound old
    by_refusal (Some why) = old
