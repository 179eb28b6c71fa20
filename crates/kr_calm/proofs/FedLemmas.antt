-- What is known to have been fed to the next server is there: in every world of every run.
use Rattle.kr_order.specs.declared.message.Node.TheVariants.{Manager as ToManager, Client as ToClient, Server as ToServer}
use Rattle.kr_order.specs.declared.message.Node as nodes
use Rattle.kr_protocol.specs.Server.{Server, next, prev, are_same, is_server, may_adopt, viewing, is_at_tail, is_member, server_takes, from_client, from_server, from_manager, requested, enters, enters_new, may_enter, appended, advances, sends, window, takes_entries, missing, after_request, after_append, after_ack, after_ask, asked_in, waits, is_for_tail, refer_packet, most_waiting, hears, ack, follows, feeds, adopts, reply_packet, acknowledged}
use Rattle.kr_order.specs.declared.answer.Query.{Query}
use Rattle.kr_protocol.specs.Reaction.{ignored}
use Rattle.std.proofs.Common.{Bool, List, [], ap, arith, cond, eqb, false, leb, length, ltb, not, refl, subst, sym, true, ℕ, ◌++◌, ◌||◌, ◌∙◌, ◌∷◌, ◌≡◌, ◌≤◌}
use Rattle.std.specs.Prelude.{None, Option, Some, max, min}
use Rattle.std.proofs.lemmas.Bool.{ltb-false}
use Rattle.kr_order.specs.Done.{done_of, last_of}
use Rattle.kr_order.specs.View.{is_tail}
use Rattle.kr_order.specs.declared.history.Command.{Command}
use Rattle.kr_order.specs.declared.history.DoneEntry.{DoneEntry}
use Rattle.kr_order.specs.declared.history.Entry.{Entry}
use Rattle.kr_order.specs.declared.ids.ClientId.{ClientId}
use Rattle.kr_order.specs.declared.ids.ServerId.{ServerId}
use Rattle.kr_order.specs.declared.message.Message.{Message}
use Rattle.kr_order.specs.declared.message.Message.TheVariants.{Ack, Append, Ask, NewView, Request}
use Rattle.kr_order.specs.declared.message.Node.{Node}
use Rattle.kr_order.specs.declared.message.Packet.{Packet}
use Rattle.kr_order.specs.declared.view.View.{View}

-- how many entries the next server is known to have, after a packet
pub data Feeds (server : Server) : Packet → Server → Type 0 where
  -- as many as before
  feeds_on : (packet : Packet) (after : Server) → after.view ≡ server.view → after.fed ≡ server.fed → Feeds server packet after
  -- as many as it says, or as this server has itself
  feeds_told :
      (from : ServerId) (to : nodes.Node) (done len : ℕ) (after : Server)
      → is_server (next server) from ≡ true
      → after.view ≡ server.view
      → after.fed ≡ max server.fed (min len (length server.log))
      → Feeds server (record { from = ToServer from; to = to; message = Ack done len }) after
  -- as many as before, or none, where the server has adopted a view
  feeds_anew :
      (to : nodes.Node) (view : View) (after : Server)
      → may_adopt server view ≡ true
      → after.view ≡ Some view
      → after.fed ≡ cond (are_same (next server) (next after)) server.fed 0
      → Feeds server (record { from = ToManager; to = to; message = NewView view }) after

-- it has the view and what is fed as before
record IsFedAsBefore (server after : Server) : Type 0 where
  view : after.view ≡ server.view
  fed : after.fed ≡ server.fed

so_before : (server : Server) (packet : Packet) (after : Server) → IsFedAsBefore server after → Feeds server packet after
so_before server packet after so = feeds_on packet after so.view so.fed

same_so : (server : Server) → IsFedAsBefore server server
same_so server = record { view = refl; fed = refl }

enters_so : (server : Server) (entry : Entry) → IsFedAsBefore server (enters server entry).after
enters_so server entry = by_tail (is_at_tail server)
  where
    grown : Server
    grown = appended server (entry ∷ [])

    by_tail : (tail : Bool) → IsFedAsBefore server (cond tail (advances grown (length grown.log)) (sends grown (window grown))).after
    by_tail true = record { view = refl; fed = refl }
    by_tail false = record { view = refl; fed = refl }

enters_new_so : (server : Server) (entry : Entry) → IsFedAsBefore server (enters_new server entry).after
enters_new_so server entry = by_test (may_enter server entry)
  where
    by_test : (may : Bool) → IsFedAsBefore server (cond may (enters server entry) (ignored server)).after
    by_test true = enters_so server entry
    by_test false = same_so server

requested_so : (server : Server) (entry : Entry) (last : Option DoneEntry) → IsFedAsBefore server (requested server entry last).after
requested_so server entry None = enters_new_so server entry
requested_so server entry (Some last) = by_test (eqb last.entry.seq entry.seq)
  where
    by_test : (same : Bool) → IsFedAsBefore server (cond same (sends server (reply_packet server.id last ∷ [])) (enters_new server entry)).after
    by_test true = same_so server
    by_test false = enters_new_so server entry

request_so : (server : Server) (client : ClientId) (seq : ℕ) (command : Command) → IsFedAsBefore server (after_request server client seq command).after
request_so server client seq command = by_test (is_member server)
  where
    by_test : (member : Bool) → IsFedAsBefore server (cond member (requested server (record { client = client; seq = seq; command = command }) (last_of client (done_of (acknowledged server)))) (ignored server)).after
    by_test true = requested_so server (record { client = client; seq = seq; command = command }) (last_of client (done_of (acknowledged server)))
    by_test false = same_so server

append_so : (server : Server) (from : ServerId) (first : ℕ) (entries : List Entry) → IsFedAsBefore server (after_append server from first entries).after
append_so server from first entries = by_test (is_server (prev server) from)
  where
    lacks : List Entry
    lacks = missing server.log first entries

    by_tail : (tail : Bool) → IsFedAsBefore server (cond tail (advances (appended server lacks) (length (server.log ++ lacks))) (sends (appended server lacks) [])).after
    by_tail true = record { view = refl; fed = refl }
    by_tail false = record { view = refl; fed = refl }

    by_test : (test : Bool) → IsFedAsBefore server (cond test (takes_entries server from lacks) (ignored server)).after
    by_test true = by_tail (is_at_tail server)
    by_test false = same_so server

waits_so : (server : Server) (query : Query) → IsFedAsBefore server (waits server query).after
waits_so server query = by_test (leb most_waiting (length server.waiting))
  where
    by_test : (full : Bool) → IsFedAsBefore server (cond full (ignored server) (sends (record server { waiting = server.waiting ++ query ∷ [] }) [])).after
    by_test true = same_so server
    by_test false = record { view = refl; fed = refl }

ask_so : (server : Server) (query : Query) → IsFedAsBefore server (after_ask server query).after
ask_so server query = by_view server.view
  where
    by_test : (view : View) (other : Bool) → IsFedAsBefore server (cond other (sends server (refer_packet server view query ∷ [])) (waits server query)).after
    by_test view true = same_so server
    by_test view false = waits_so server query

    by_view : (view : Option View) → IsFedAsBefore server (asked_in server query view).after
    by_view None = same_so server
    by_view (Some view) = by_test view (not (is_member server) || is_for_tail server query)

-- an acknowledgement tells how many it has
ack_feeds : (server : Server) (from : ServerId) (to : nodes.Node) (done len : ℕ) → Feeds server (record { from = ToServer from; to = to; message = Ack done len }) (after_ack server from done len).after
ack_feeds server from to done len = by_test (is_server (next server) from) refl
  where
    packet : Packet
    packet = record { from = ToServer from; to = to; message = Ack done len }

    upto : ℕ
    upto = min done (length server.log)

    by_more : is_server (next server) from ≡ true → (more : Bool)
        → Feeds server packet (feeds (cond more (follows (advances server upto) (λ after. sends after (ack after))) (sends server [])).after (min len (length (cond more (follows (advances server upto) (λ after. sends after (ack after))) (sends server [])).after.log))).after
    by_more is true = feeds_told from to done len _ is refl refl
    by_more is false = feeds_told from to done len _ is refl refl

    by_test : (test : Bool) → is_server (next server) from ≡ test → Feeds server packet (cond test (hears server from done len) (ignored server)).after
    by_test true is = by_more is (ltb server.done upto)
    by_test false is = so_before server packet server (same_so server)

view_feeds : (server : Server) (to : nodes.Node) (view : View) → Feeds server (record { from = ToManager; to = to; message = NewView view }) (from_manager server (NewView view)).after
view_feeds server to view = by_test (may_adopt server view) refl
  where
    packet : Packet
    packet = record { from = ToManager; to = to; message = NewView view }

    now : Server
    now = viewing server view

    by_tail : may_adopt server view ≡ true → (tail : Bool) → Feeds server packet (cond tail (advances now (length server.log)) (sends now [])).after
    by_tail may true = feeds_anew to view _ may refl refl
    by_tail may false = feeds_anew to view _ may refl refl

    by_test : (test : Bool) → may_adopt server view ≡ test → Feeds server packet (cond test (adopts server view) (ignored server)).after
    by_test true may = by_tail may (is_tail view server.id)
    by_test false may = so_before server packet server (same_so server)

client_feeds : (server : Server) (client : ClientId) (to : nodes.Node) (message : Message) → Feeds server (record { from = ToClient client; to = to; message = message }) (from_client server client message).after
client_feeds server client to (Request seq command) = so_before server _ _ (request_so server client seq command)
client_feeds server client to (Ask q part pairs) = so_before server _ _ (ask_so server (record { client = client; q = q; part = part; pairs = pairs }))
client_feeds server client to other = so_before server _ _ (same_so server)

server_feeds : (server : Server) (from : ServerId) (to : nodes.Node) (message : Message) → Feeds server (record { from = ToServer from; to = to; message = message }) (from_server server from message).after
server_feeds server from to (Append first entries) = so_before server _ _ (append_so server from first entries)
server_feeds server from to (Ack done len) = ack_feeds server from to done len
server_feeds server from to other = so_before server _ _ (same_so server)

manager_feeds : (server : Server) (to : nodes.Node) (message : Message) → Feeds server (record { from = ToManager; to = to; message = message }) (from_manager server message).after
manager_feeds server to (NewView view) = view_feeds server to view
manager_feeds server to other = so_before server _ _ (same_so server)

sender_feeds : (server : Server) (from to : nodes.Node) (message : Message) → Feeds server (record { from = from; to = to; message = message }) (server_takes server (record { from = from; to = to; message = message })).after
sender_feeds server ToManager to message = manager_feeds server to message
sender_feeds server (ToClient client) to message = client_feeds server client to message
sender_feeds server (ToServer from) to message = server_feeds server from to message

pub feeds_of : (server : Server) (packet : Packet) → Feeds server packet (server_takes server packet).after
feeds_of server packet = sender_feeds server packet.from packet.to packet.message

-- what an acknowledgement of the next server comes to
pub ack_fed : (server : Server) (from : ServerId) (done len : ℕ) → is_server (next server) from ≡ true → (after_ack server from done len).after.fed ≡ max server.fed (min len (length server.log))
ack_fed server from done len is = ap (λ test. (cond test (hears server from done len) (ignored server)).after.fed) is ∙ by_more (ltb server.done (min done (length server.log)))
  where
    upto : ℕ
    upto = min done (length server.log)

    by_more : (more : Bool)
        → (feeds (cond more (follows (advances server upto) (λ after. sends after (ack after))) (sends server [])).after (min len (length (cond more (follows (advances server upto) (λ after. sends after (ack after))) (sends server [])).after.log))).after.fed ≡ max server.fed (min len (length server.log))
    by_more true = refl
    by_more false = refl

pub ack_done : (server : Server) (from : ServerId) (done len : ℕ) → is_server (next server) from ≡ true → min done (length server.log) ≤ (after_ack server from done len).after.done
ack_done server from done len is =
    subst (λ test. min done (length server.log) ≤ (cond test (hears server from done len) (ignored server)).after.done) (sym is) (by_more (ltb server.done (min done (length server.log))) refl)
  where
    upto : ℕ
    upto = min done (length server.log)

    by_more : (more : Bool) → ltb server.done (min done (length server.log)) ≡ more
        → min done (length server.log) ≤ (feeds (cond more (follows (advances server upto) (λ after. sends after (ack after))) (sends server [])).after (min len (length (cond more (follows (advances server upto) (λ after. sends after (ack after))) (sends server [])).after.log))).after.done
    by_more true is = omega arith
    by_more false is = ltb-false server.done (min done (length server.log)) is
