-- How a server and a client go on through the steps of a round.
use Rattle.kr_order.specs.declared.message.Node.TheVariants.{Manager as ToManager, Client as ToClient, Server as ToServer}
use Rattle.kr_order.specs.declared.message.Node as nodes
use Rattle.kr_protocol.specs.Server.{Server, server_takes, server_works, server_ticks}
use Rattle.kr_protocol.specs.Client.{Client, learns, client_takes, closes, unheard, answered, turns_to, after_reply, after_answers, answers_from, after_refer, message_to, may_answer_all, unsure_of, remaining}
use Rattle.kr_protocol.specs.Manager.{views_of}
use Rattle.std.proofs.Common.{Bool, List, [], ap, arith, cond, eqb, false, inl, inr, ltb, refl, set, subst, sym, true, ℕ, ◌&&◌, ◌-◌, ◌∙◌, ◌≡◌, ◌≤◌, ◌⊎◌}
use Rattle.std.specs.Prelude.{None, Option, Some, slice_get}
use Rattle.std.proofs.lemmas.Bool.{and_parts, cases_eq, eqb-true}
use Rattle.std.proofs.lemmas.Option.{same_Some, slice_get_within}
use Rattle.kr_order.proofs.PrefixLemmas.{IsPrefix-refl}
use Rattle.kr_order.specs.Prefix.{IsPrefix}
use Rattle.kr_order.specs.declared.answer.Teller.{Teller}
use Rattle.kr_order.specs.declared.answer.Told.{Told}
use Rattle.kr_order.specs.declared.history.Command.{Command}
use Rattle.kr_order.specs.declared.history.Placed.{Placed}
use Rattle.kr_order.specs.declared.ids.ClientId.{ClientId}
use Rattle.kr_order.specs.declared.ids.EventId.{EventId}
use Rattle.kr_order.specs.declared.ids.ServerId.{ServerId}
use Rattle.kr_order.specs.declared.message.Message.{Message}
use Rattle.kr_order.specs.declared.message.Message.TheVariants.{Answered, Refer, Replied}
use Rattle.kr_order.specs.declared.message.Node.{Node}
use Rattle.kr_order.specs.declared.message.Packet.{Packet}
use Rattle.kr_order.specs.declared.view.View.{View}
use Rattle.script_lang.specs.declared.script.Event.{Event}
use Rattle.kr_world.proofs.steps.ListFacts.{set_here, set_other}
use Rattle.kr_world.proofs.chain.SeatLemmas.{IsSeated}
use Rattle.kr_world.proofs.sound.SoundLemmas.{takes_within}
use Rattle.kr_world.proofs.steps.StepLemmas.{at_index}
use Rattle.kr_world.proofs.queries.SureLemmas.{left_of_first}
use Rattle.kr_world.specs.Sound.{IsSound, IsSoundPacket}
use Rattle.kr_world.specs.World.{World, client_at, packet_at, server_at}
use Rattle.kr_calm.proofs.DoesLemmas.{Does, does_hear, does_learn, does_mark, does_nothing, does_retry, does_take, does_tell, does_tick, does_work}
use Rattle.kr_calm.proofs.FedLemmas.{Feeds, feeds_anew, feeds_of, feeds_on, feeds_told}
use Rattle.kr_calm.proofs.MemberLemmas.{adopts_no_other}
use Rattle.kr_calm.proofs.ReachedLemmas.{InCalm}
use Rattle.kr_order.specs.declared.answer.Teller.TheVariants as teller

-- a server of this number is there, of which this holds
pub record Has (world : World) (id : ServerId) (P : Server → Type 0) : Type 0 where
  pub server : Server
  pub at : server_at world id ≡ Some server
  pub holds : P server

-- its log and what is acknowledged grow; by the view it keeps that, and knows no less to be fed
pub record Goes (view : View) (old new : Server) : Type 0 where
  pub id : new.id ≡ old.id
  pub log : IsPrefix old.log new.log
  pub done : old.done ≤ new.done
  pub viewed : old.view ≡ Some view → new.view ≡ Some view
  pub fed : old.view ≡ Some view → old.fed ≤ new.fed

goes_same : (view : View) (server : Server) → Goes view server server
goes_same view server = record { id = refl; log = IsPrefix-refl server.log; done = omega arith; viewed = λ is. is; fed = λ is. omega arith }

goes_works : (view : View) (server : Server) → Goes view server (server_works server).after
goes_works view server = record { id = refl; log = IsPrefix-refl server.log; done = omega arith; viewed = λ is. is; fed = λ is. omega arith }

-- the view and what is fed, by what came
record GoesBy (view : View) (old new : Server) : Type 0 where
  viewed : new.view ≡ Some view
  fed : old.fed ≤ new.fed

fed_goes : (view : View) (world : World) (old after : Server) (packet : Packet) → InCalm view world → IsSoundPacket (views_of world.manager) world.servers packet
    → Feeds old packet after → old.view ≡ Some view → GoesBy view old after
fed_goes view world old after packet calm said (feeds_on p a same fed) adopted = record { viewed = same ∙ adopted; fed = omega arith }
fed_goes view world old after packet calm said (feeds_told from to done len a told same fed) adopted = record { viewed = same ∙ adopted; fed = omega arith }
fed_goes view world old after packet calm said (feeds_anew to other a may same fed) adopted = absurd (adopts_no_other view other world old calm adopted said may)

pub goes_takes : (view : View) (world : World) (id : ServerId) (packet : Packet) (server : Server) → InCalm view world → IsSeated world id server
    → IsSoundPacket (views_of world.manager) world.servers packet → Goes view server (server_takes server packet).after
goes_takes view world id packet server calm seat said =
    let bounds = takes_within world id packet server seat said in
    let after = (server_takes server packet).after in
    record {
      id = bounds.id;
      log = bounds.grows;
      done = bounds.done_grows;
      viewed = λ adopted. (fed_goes view world server after packet calm said (feeds_of server packet) adopted).viewed;
      fed = λ adopted. (fed_goes view world server after packet calm said (feeds_of server packet) adopted).fed;
    }

pub packet_said : (world : World) (k : ℕ) (packet : Packet) → IsSound world → packet_at world k ≡ Some packet → IsSoundPacket (views_of world.manager) world.servers packet
packet_said world k packet sound there = at_index (IsSoundPacket (views_of world.manager) world.servers) world.bag (k - 1) packet sound.packets there

-- where one server is set
set_goes : (view : View) (world after : World) (k : ℕ) (old new : Server) → after.servers ≡ set world.servers k new → slice_get world.servers k ≡ Some old → Goes view old new
    → (id : ServerId) (server : Server) → server_at world id ≡ Some server → Has after id (Goes view server)
set_goes view world after k old new is there goes id server at = elim (cases_eq (id.0 - 1) k) [
  | inl same ↦
      let its : server ≡ old = same_Some server old (sym at ∙ ap (slice_get world.servers) same ∙ there) in
      let here : slice_get (set world.servers k new) (id.0 - 1) ≡ Some new = ap (slice_get (set world.servers k new)) same ∙ set_here world.servers k new (slice_get_within world.servers k old there) in
      record { server = new; at = ap (λ s. slice_get s (id.0 - 1)) is ∙ here; holds = subst (λ s. Goes view s new) (sym its) goes }
  | inr other ↦
      record { server = server; at = ap (λ s. slice_get s (id.0 - 1)) is ∙ set_other world.servers k new (id.0 - 1) server other at; holds = goes_same view server }
]

unmoved : (view : View) (world after : World) → after.servers ≡ world.servers → (id : ServerId) (server : Server) → server_at world id ≡ Some server → Has after id (Goes view server)
unmoved view world after is id server at = record { server = server; at = ap (λ s. slice_get s (id.0 - 1)) is ∙ at; holds = goes_same view server }

pub servers_go : (view : View) (world : World) (event : Event) (after : World) → InCalm view world → Does world event after
    → (id : ServerId) (server : Server) → server_at world id ≡ Some server → Has after id (Goes view server)
servers_go view world event after calm (does_nothing e) id server at = unmoved view world world refl id server at
servers_go view world event after calm (does_learn who client there) id server at = unmoved view world after refl id server at
servers_go view world event after calm does_tell id server at = unmoved view world after refl id server at
servers_go view world event after calm (does_tick who old seat) id server at =
    set_goes view world after (who.0 - 1) old (server_ticks old).after refl seat.at (goes_same view old) id server at
servers_go view world event after calm (does_retry who to client there) id server at = unmoved view world after refl id server at
servers_go view world event after calm (does_work who workers old seat) id server at =
    set_goes view world after (who.0 - 1) old (server_works old).after refl seat.at (goes_works view old) id server at
servers_go view world event after calm (does_mark k) id server at = unmoved view world after refl id server at
servers_go view world event after calm (does_hear k packet who client there to found) id server at = unmoved view world after refl id server at
servers_go view world event after calm (does_take k packet who old there to seat) id server at =
    set_goes view world after (who.0 - 1) old (server_takes old packet).after refl seat.at (goes_takes view world who packet old calm seat (packet_said world k packet calm.reached.sound there)) id server at

-- a client of this number is there, of which this holds
pub record HasClient (world : World) (id : ClientId) (P : Client → Type 0) : Type 0 where
  pub client : Client
  pub at : client_at world id ≡ Some client
  pub holds : P client

-- how its query goes on
pub data QueryGoes (old new : Client) : Type 0 where
  query_stays : new.part ≡ old.part → new.asking ≡ old.asking → QueryGoes old new
  query_ends : new.asking ≡ None → QueryGoes old new
  query_turns : (pairs : List (EventId × EventId)) → old.asking ≡ Some pairs → old.part ≡ 1 → new.part ≡ 2 → QueryGoes old new

-- it begins nothing
pub record ClientGoes (old new : Client) : Type 0 where
  pub id : new.id ≡ old.id
  pub seq : new.seq ≡ old.seq
  pub q : new.q ≡ old.q
  pub call : (new.call ≡ old.call) ⊎ (new.call ≡ None)
  pub query : QueryGoes old new

client_same : (client : Client) → ClientGoes client client
client_same client = record { id = refl; seq = refl; q = refl; call = inl refl; query = query_stays refl refl }

client_learns : (client : Client) (view : View) → ClientGoes client (learns client view)
client_learns client view = record { id = refl; seq = refl; q = refl; call = inl refl; query = query_stays refl refl }

reply_goes : (client : Client) (call : Option Command) (seq : ℕ) (placed : Placed) → ClientGoes client (after_reply client call seq placed).after
reply_goes client None seq placed = client_same client
reply_goes client (Some command) seq placed = by_test (eqb seq client.seq)
  where
    by_test : (test : Bool) → ClientGoes client (cond test (closes client placed) (unheard client)).after
    by_test true = record { id = refl; seq = refl; q = refl; call = inr refl; query = query_stays refl refl }
    by_test false = client_same client

answers_go : (client : Client) (asking : Option (List (EventId × EventId))) (by : Teller) (q part : ℕ) (told : Told) → client.asking ≡ asking → ClientGoes client (after_answers client asking by q part told).after
answers_go client None by q part told is = client_same client
answers_go client (Some pairs) by q part told is = by_test (eqb q client.q && (eqb part client.part && may_answer_all part pairs told.answers)) refl
  where
    by_left : (unsure_of pairs told.answers ≡ []) ⊎ (part ≡ 1) → part ≡ client.part → ClientGoes client (answered client pairs by told).after
    by_left (inl none) same = record { id = refl; seq = refl; q = refl; call = inl refl; query = query_ends (ap remaining none) }
    by_left (inr first) same = record { id = refl; seq = refl; q = refl; call = inl refl; query = query_turns pairs is (sym same ∙ first) refl }

    by_test : (test : Bool) → (eqb q client.q && (eqb part client.part && may_answer_all part pairs told.answers)) ≡ test → ClientGoes client (cond test (answered client pairs by told) (unheard client)).after
    by_test true holds =
        let rest = and_parts (eqb q client.q) (eqb part client.part && may_answer_all part pairs told.answers) holds in
        let parts = and_parts (eqb part client.part) (may_answer_all part pairs told.answers) rest.1 in
        by_left (left_of_first part pairs told.answers parts.1) (eqb-true part client.part parts.0)
    by_test false holds = client_same client

from_goes : (client : Client) (from : nodes.Node) (q part : ℕ) (told : Told) → ClientGoes client (answers_from client from q part told).after
from_goes client ToManager q part told = client_same client
from_goes client (ToClient other) q part told = client_same client
from_goes client (ToServer server) q part told = answers_go client client.asking (teller.Server server) q part told refl

refer_goes : (client : Client) (asking : Option (List (EventId × EventId))) (q part : ℕ) (view : View) → ClientGoes client (after_refer client asking q part view).after
refer_goes client None q part view = client_same client
refer_goes client (Some pairs) q part view = by_test (eqb q client.q && (eqb part client.part && ltb client.known.number view.number))
  where
    by_test : (test : Bool) → ClientGoes client (cond test (turns_to client view) (unheard client)).after
    by_test true = client_learns client view
    by_test false = client_same client

pub hears_goes : (client : Client) (packet : Packet) → ClientGoes client (client_takes client packet).after
hears_goes client packet = by_message packet.message
  where
    by_message : (message : Message) → ClientGoes client (message_to client packet.from message).after
    by_message (Replied seq placed) = reply_goes client client.call seq placed
    by_message (Answered q part told) = from_goes client packet.from q part told
    by_message (Refer q part view) = refer_goes client client.asking q part view
    by_message other = client_same client

set_client : (world after : World) (k : ℕ) (old new : Client) → after.clients ≡ set world.clients k new → slice_get world.clients k ≡ Some old → ClientGoes old new
    → (id : ClientId) (client : Client) → client_at world id ≡ Some client → HasClient after id (ClientGoes client)
set_client world after k old new is there goes id client at = elim (cases_eq (id.0 - 1) k) [
  | inl same ↦
      let its : client ≡ old = same_Some client old (sym at ∙ ap (slice_get world.clients) same ∙ there) in
      let here : slice_get (set world.clients k new) (id.0 - 1) ≡ Some new = ap (slice_get (set world.clients k new)) same ∙ set_here world.clients k new (slice_get_within world.clients k old there) in
      record { client = new; at = ap (λ s. slice_get s (id.0 - 1)) is ∙ here; holds = subst (λ s. ClientGoes s new) (sym its) goes }
  | inr other ↦
      record { client = client; at = ap (λ s. slice_get s (id.0 - 1)) is ∙ set_other world.clients k new (id.0 - 1) client other at; holds = client_same client }
]

client_unmoved : (world after : World) → after.clients ≡ world.clients → (id : ClientId) (client : Client) → client_at world id ≡ Some client → HasClient after id (ClientGoes client)
client_unmoved world after is id client at = record { client = client; at = ap (λ s. slice_get s (id.0 - 1)) is ∙ at; holds = client_same client }

pub clients_go : (world : World) (event : Event) (after : World) → Does world event after → (id : ClientId) (client : Client) → client_at world id ≡ Some client → HasClient after id (ClientGoes client)
clients_go world event after (does_nothing e) id client at = client_unmoved world after refl id client at
clients_go world event after (does_learn who old there) id client at = set_client world after (who.0 - 1) old (learns old world.manager.current) refl there (client_learns old world.manager.current) id client at
clients_go world event after does_tell id client at = client_unmoved world after refl id client at
clients_go world event after (does_tick who server seat) id client at = client_unmoved world after refl id client at
clients_go world event after (does_retry who to old there) id client at = client_unmoved world after refl id client at
clients_go world event after (does_work who workers server seat) id client at = client_unmoved world after refl id client at
clients_go world event after (does_mark k) id client at = client_unmoved world after refl id client at
clients_go world event after (does_hear k packet who old there to found) id client at = set_client world after (who.0 - 1) old (client_takes old packet).after refl found (hears_goes old packet) id client at
clients_go world event after (does_take k packet who server there to seat) id client at = client_unmoved world after refl id client at
