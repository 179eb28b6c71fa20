-- A client's step keeps the world sound.
use Rattle.std.proofs.Common.{◌≡◌, ℕ, ◌+◌, ◌-◌, ◌<◌, ◌≤◌, Bool, true, false, cond, ◌&&◌, eqb, ltb, List, [], ◌∷◌, ◌++◌, length, refl, sym, subst, arith}
use Rattle.std.specs.Prelude.{Option, None, Some, All}
use Rattle.std.proofs.lemmas.List.{length-append}
use Rattle.std.proofs.lemmas.List.Elements.{All-nil, All-cons}
use Rattle.kr_order.specs.declared.ids.ClientId.{ClientId}
use Rattle.kr_order.specs.declared.ids.ServerId.{ServerId}
use Rattle.kr_order.specs.declared.ids.EventId.{EventId}
use Rattle.kr_order.specs.declared.answer.Teller.{Teller}
use Rattle.kr_order.specs.declared.answer.Teller.TheVariants as teller
use Rattle.kr_order.specs.declared.answer.Told.{Told}
use Rattle.kr_order.specs.declared.history.Command.{Command}
use Rattle.kr_order.specs.declared.history.Placed.{Placed}
use Rattle.kr_order.specs.declared.message.Node as nodes
use Rattle.kr_order.specs.declared.message.Node.TheVariants.{Manager, Client as ToClient, Server as ToServer}
use Rattle.kr_order.specs.declared.message.Message.{Message}
use Rattle.kr_order.specs.declared.message.Message.TheVariants.{Replied, Answered, Refer}
use Rattle.kr_order.specs.declared.message.Packet.{Packet}
use Rattle.kr_order.specs.declared.view.View.{View}
use Rattle.kr_protocol.specs.Reaction.{Reaction}
use Rattle.kr_protocol.specs.Manager.{views_of}
use Rattle.kr_protocol.specs.Server.{Server}
use Rattle.kr_protocol.specs.Client.{Client, Hearing, last, begins, asks, asked_again, tried_again, retries, unheard, learns, closes, after_reply, may_answer_all, answered, after_answers, answers_from, turns_to, after_refer, message_to, client_takes}
use Rattle.kr_world.specs.World.{World, client_at, server_at, with_packets}
use Rattle.kr_world.specs.Step.{bag_limit, call_refusal, query_refusal, retry_refusal, client_sends, client_calls, client_asks, client_retries, client_hears, arrives_at_client, learns_view}
use Rattle.kr_world.specs.Sound.{IsSound, IsSoundPacket}
use Rattle.kr_world.proofs.steps.StepLemmas.{at_index, idle_client, may_ask, may_retry}
use Rattle.kr_world.proofs.steps.BagLemmas.{packets_sound, client_sound}

-- one packet at the most, and a true one
pub record IsOneSaid (views : List View) (servers : List Server) (packets : List Packet) : Type 0 where
  pub few : length packets ≤ 1
  pub said : All (IsSoundPacket views servers) packets

one_said : (views : List View) (servers : List Server) (packet : Packet) → IsSoundPacket views servers packet → IsOneSaid views servers (packet ∷ [])
one_said views servers packet said =
    record { few = omega arith; said = All-cons (IsSoundPacket views servers) packet [] said (All-nil (IsSoundPacket views servers)) }

no_one_said : (views : List View) (servers : List Server) → IsOneSaid views servers []
no_one_said views servers = record { few = omega arith; said = All-nil (IsSoundPacket views servers) }

-- a client that sends what it may has begun one command more at the most
sends_sound :
    (world : World) (id : ClientId) (client : Client) (reaction : Reaction Client)
    → IsOneSaid (views_of world.manager) world.servers reaction.sent
    → client_at world id ≡ Some client
    → length world.bag < bag_limit
    → reaction.after.seq ≤ client.seq + length reaction.sent
    → IsSound world
    → IsSound (client_sends world id reaction).after
sends_sound world id client reaction said is room seq sound =
    let seq_before : client.seq ≤ length world.bag =
    at_index (λ c. c.seq ≤ length world.bag) world.clients (id.0 - 1) client sound.calls is in
    let few = said.few in
    let longer : length (world.bag ++ reaction.sent) ≡ length world.bag + length reaction.sent = length-append world.bag reaction.sent in
    client_sound (with_packets world reaction.sent) id reaction.after (omega arith) (packets_sound world reaction.sent said.said (omega arith) sound)

pub call_sound :
    (world : World) (id : ClientId) (command : Command) (found : Option Client)
    → client_at world id ≡ found
    → call_refusal world found ≡ None
    → IsSound world
    → IsSound (client_calls world id command found).after
call_sound world id command None is none sound = sound
call_sound world id command (Some client) is none sound =
    let free = idle_client world client none in
    sends_sound world id client (begins client command) (one_said (views_of world.manager) world.servers _ tt) is free.room (omega arith) sound

-- what a client sends when it tries its call again is true
asked_said :
    (views : List View) (servers : List Server) (client : Client) (server : ServerId) (asking : Option (List (EventId × EventId)))
    → IsOneSaid views servers (asked_again client server asking)
asked_said views servers client server None = no_one_said views servers
asked_said views servers client server (Some pairs) = one_said views servers _ tt

tried_said :
    (views : List View) (servers : List Server) (client : Client) (server : ServerId) (call : Option Command)
    → IsOneSaid views servers (tried_again client server call)
tried_said views servers client server None = asked_said views servers client server client.asking
tried_said views servers client server (Some command) = one_said views servers _ tt

pub retry_sound :
    (world : World) (id : ClientId) (server : ServerId)
    → retry_refusal world server (client_at world id) (server_at world server) ≡ None
    → IsSound world
    → IsSound (client_retries world server (client_at world id)).after
retry_sound world id server none sound =
    let may = may_retry world server (client_at world id) (server_at world server) none in
    let room = may.room in
    let said : IsOneSaid (views_of world.manager) world.servers (retries may.client server) = tried_said (views_of world.manager) world.servers may.client server may.client.call in
    let few = said.few in
    subst (λ found. IsSound (client_retries world server found).after) (sym may.client_is) (packets_sound world (retries may.client server) said.said (omega arith) sound)

-- what a client hears begins no command, and it sends what it may
pub record IsHeardSo (views : List View) (servers : List Server) (client : Client) (hearing : Hearing) : Type 0 where
  pub seq : hearing.after.seq ≡ client.seq
  pub sent : IsOneSaid views servers hearing.sent

reply_so :
    (views : List View) (servers : List Server) (client : Client) (call : Option Command) (seq : ℕ) (placed : Placed)
    → IsHeardSo views servers client (after_reply client call seq placed)
reply_so views servers client None seq placed = record { seq = refl; sent = no_one_said views servers }
reply_so views servers client (Some command) seq placed = by_test (eqb seq client.seq)
  where
    by_test : (test : Bool) → IsHeardSo views servers client (cond test (closes client placed) (unheard client))
    by_test true = record { seq = refl; sent = no_one_said views servers }
    by_test false = record { seq = refl; sent = no_one_said views servers }

answers_so :
    (views : List View) (servers : List Server) (client : Client) (asking : Option (List (EventId × EventId))) (by : Teller) (q part : ℕ) (told : Told)
    → IsHeardSo views servers client (after_answers client asking by q part told)
answers_so views servers client None by q part told = record { seq = refl; sent = no_one_said views servers }
answers_so views servers client (Some pairs) by q part told = by_test (eqb q client.q && (eqb part client.part && may_answer_all part pairs told.answers))
  where
    by_test : (test : Bool) → IsHeardSo views servers client (cond test (answered client pairs by told) (unheard client))
    by_test true =
        let after = (answered client pairs by told).after in record { seq = refl; sent = asked_said views servers after (last client) after.asking }
    by_test false = record { seq = refl; sent = no_one_said views servers }

from_so :
    (views : List View) (servers : List Server) (client : Client) (from : nodes.Node) (q part : ℕ) (told : Told)
    → IsHeardSo views servers client (answers_from client from q part told)
from_so views servers client Manager q part told = record { seq = refl; sent = no_one_said views servers }
from_so views servers client (ToClient other) q part told = record { seq = refl; sent = no_one_said views servers }
from_so views servers client (ToServer server) q part told = answers_so views servers client client.asking (teller.Server server) q part told

refer_so :
    (views : List View) (servers : List Server) (client : Client) (asking : Option (List (EventId × EventId))) (q part : ℕ) (view : View)
    → IsHeardSo views servers client (after_refer client asking q part view)
refer_so views servers client None q part view = record { seq = refl; sent = no_one_said views servers }
refer_so views servers client (Some pairs) q part view = by_test (eqb q client.q && (eqb part client.part && ltb client.known.number view.number))
  where
    by_test : (test : Bool) → IsHeardSo views servers client (cond test (turns_to client view) (unheard client))
    by_test true =
        let after = (turns_to client view).after in record { seq = refl; sent = asked_said views servers after (last after) after.asking }
    by_test false = record { seq = refl; sent = no_one_said views servers }

hearing_so :
    (views : List View) (servers : List Server) (client : Client) (from : nodes.Node) (message : Message)
    → IsHeardSo views servers client (message_to client from message)
hearing_so views servers client from (Replied seq placed) = reply_so views servers client client.call seq placed
hearing_so views servers client from (Answered q part told) = from_so views servers client from q part told
hearing_so views servers client from (Refer q part view) = refer_so views servers client client.asking q part view
hearing_so views servers client from other = record { seq = refl; sent = no_one_said views servers }

-- so a client that hears something keeps the world sound
heard_sound :
    (world : World) (id : ClientId) (client : Client) (hearing : Hearing)
    → IsHeardSo (views_of world.manager) world.servers client hearing
    → client_at world id ≡ Some client
    → length world.bag < bag_limit
    → IsSound world
    → IsSound (client_hears world id hearing).after
heard_sound world id client hearing so is room sound =
    let seq = so.seq in
    sends_sound world id client (record { after = hearing.after; sent = hearing.sent }) so.sent is room (omega arith) sound

pub query_sound :
    (world : World) (id : ClientId) (server : ServerId) (pairs : List (EventId × EventId))
    → query_refusal world server (client_at world id) (server_at world server) ≡ None
    → IsSound world
    → IsSound (client_asks world id server pairs (client_at world id)).after
query_sound world id server pairs none sound =
    let may = may_ask world server (client_at world id) (server_at world server) none in
    let free = idle_client world may.client may.may_call in
    let hearing = asks may.client server pairs in
    let so : IsHeardSo (views_of world.manager) world.servers may.client hearing = record { seq = refl; sent = asked_said (views_of world.manager) world.servers hearing.after server hearing.after.asking } in
    subst (λ found. IsSound (client_asks world id server pairs found).after) (sym may.client_is) (heard_sound world id may.client hearing so may.client_is free.room sound)

pub hears_sound :
    (world : World) (id : ClientId) (packet : Packet) (found : Option Client)
    → client_at world id ≡ found
    → length world.bag < bag_limit
    → IsSound world
    → IsSound (arrives_at_client world id packet found).after
hears_sound world id packet None is room sound = sound
hears_sound world id packet (Some client) is room sound =
    heard_sound world id client (client_takes client packet) (hearing_so (views_of world.manager) world.servers client packet.from packet.message) is room sound

-- a client that learns the view sends nothing
pub learn_sound :
    (world : World) (id : ClientId) (found : Option Client)
    → client_at world id ≡ found
    → IsSound world
    → IsSound (learns_view world id found).after
learn_sound world id None is sound = sound
learn_sound world id (Some client) is sound =
    let after = learns client world.manager.current in
    let seq : after.seq ≤ length world.bag = at_index (λ c. c.seq ≤ length world.bag) world.clients (id.0 - 1) client sound.calls is in
    let bag = sound.bag in
    client_sound (with_packets world []) id after (omega (arith, length-append world.bag [])) (packets_sound world [] (All-nil (IsSoundPacket (views_of world.manager) world.servers)) (omega arith) sound)
