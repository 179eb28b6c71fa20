-- Which queries wait at a server after what it takes: a query waits where one came.
use Rattle.kr_order.specs.declared.message.Node.TheVariants.{Manager as ToManager, Client as ToClient, Server as ToServer}
use Rattle.kr_order.specs.declared.message.Node as nodes
use Rattle.kr_order.specs.declared.answer.Query.{Query}
use Rattle.kr_protocol.specs.Server.{Server, next, prev, is_server, may_adopt, viewing, is_at_tail, is_member, server_takes, from_client, from_server, from_manager, requested, enters, enters_new, may_enter, appended, advances, sends, window, takes_entries, missing, after_request, after_append, after_ack, after_ask, asked_in, waits, is_for_tail, refer_packet, most_waiting, hears, ack, follows, adopts, reply_packet, acknowledged}
use Rattle.kr_protocol.specs.Reaction.{Reaction, ignored}
use Rattle.std.proofs.Common.{Bool, List, [], ap, arith, cond, eqb, false, leb, length, ltb, not, refl, true, ℕ, ◌&&◌, ◌++◌, ◌<◌, ◌||◌, ◌∙◌, ◌∷◌, ◌≡◌}
use Rattle.std.specs.Prelude.{None, Option, Some, min}
use Rattle.std.proofs.lemmas.Bool.{leb-true}
use Rattle.kr_order.specs.Done.{done_of, last_of}
use Rattle.kr_order.specs.View.{is_tail}
use Rattle.kr_order.specs.declared.history.Command.{Command}
use Rattle.kr_order.specs.declared.history.DoneEntry.{DoneEntry}
use Rattle.kr_order.specs.declared.history.Entry.{Entry}
use Rattle.kr_order.specs.declared.ids.ClientId.{ClientId}
use Rattle.kr_order.specs.declared.ids.EventId.{EventId}
use Rattle.kr_order.specs.declared.ids.ServerId.{ServerId}
use Rattle.kr_order.specs.declared.message.Message.{Message}
use Rattle.kr_order.specs.declared.message.Message.TheVariants.{Ack, Append, Ask, NewView, Request}
use Rattle.kr_order.specs.declared.message.Node.{Node}
use Rattle.kr_order.specs.declared.message.Packet.{Packet}
use Rattle.kr_order.specs.declared.view.View.{View}
use Rattle.kr_calm.proofs.AskLemmas.{asks_something}

-- those that waited, and one that came
pub data WaitsAfter (old after : Server) (message : Message) : Type 0 where
  waits_same : after.waiting ≡ old.waiting → WaitsAfter old after message
  waits_one : (query : Query) → after.waiting ≡ old.waiting ++ query ∷ [] → asks_something message ≡ true → WaitsAfter old after message

module _ (server : Server) where
  abbrev WaitsOn : Reaction Server → Type 0
  WaitsOn reaction = reaction.after.waiting ≡ server.waiting

  enters_waits : (entry : Entry) → WaitsOn (enters server entry)
  enters_waits entry = by_tail (is_at_tail server)
    where
      grown : Server
      grown = appended server (entry ∷ [])

      by_tail : (tail : Bool) → WaitsOn (cond tail (advances grown (length grown.log)) (sends grown (window grown)))
      by_tail true = refl
      by_tail false = refl

  enters_new_waits : (entry : Entry) → WaitsOn (enters_new server entry)
  enters_new_waits entry = by_test (may_enter server entry)
    where
      by_test : (may : Bool) → WaitsOn (cond may (enters server entry) (ignored server))
      by_test true = enters_waits entry
      by_test false = refl

  requested_waits : (entry : Entry) (last : Option DoneEntry) → WaitsOn (requested server entry last)
  requested_waits entry None = enters_new_waits entry
  requested_waits entry (Some last) = by_test (eqb last.entry.seq entry.seq)
    where
      by_test : (same : Bool) → WaitsOn (cond same (sends server (reply_packet server.id last ∷ [])) (enters_new server entry))
      by_test true = refl
      by_test false = enters_new_waits entry

  request_waits : (client : ClientId) (seq : ℕ) (command : Command) → WaitsOn (after_request server client seq command)
  request_waits client seq command = by_test (is_member server)
    where
      by_test : (member : Bool) → WaitsOn (cond member (requested server (record { client = client; seq = seq; command = command }) (last_of client (done_of (acknowledged server)))) (ignored server))
      by_test true = requested_waits (record { client = client; seq = seq; command = command }) (last_of client (done_of (acknowledged server)))
      by_test false = refl

  append_waits : (from : ServerId) (first : ℕ) (entries : List Entry) → WaitsOn (after_append server from first entries)
  append_waits from first entries = by_test (is_server (prev server) from)
    where
      lacks : List Entry
      lacks = missing server.log first entries

      by_tail : (tail : Bool) → (cond tail (advances (appended server lacks) (length (server.log ++ lacks))) (sends (appended server lacks) [])).after.waiting ≡ server.waiting
      by_tail true = refl
      by_tail false = refl

      by_test : (test : Bool) → WaitsOn (cond test (takes_entries server from lacks) (ignored server))
      by_test true = by_tail (is_at_tail server)
      by_test false = refl

  ack_waits : (from : ServerId) (done len : ℕ) → WaitsOn (after_ack server from done len)
  ack_waits from done len = by_test (is_server (next server) from)
    where
      upto : ℕ
      upto = min done (length server.log)

      by_more : (more : Bool) → (cond more (follows (advances server upto) (λ after. sends after (ack after))) (sends server [])).after.waiting ≡ server.waiting
      by_more true = refl
      by_more false = refl

      by_test : (test : Bool) → WaitsOn (cond test (hears server from done len) (ignored server))
      by_test true = by_more (ltb server.done upto)
      by_test false = refl

  view_waits : (view : View) → WaitsOn (from_manager server (NewView view))
  view_waits view = by_test (may_adopt server view)
    where
      now : Server
      now = viewing server view

      by_tail : (tail : Bool) → (cond tail (advances now (length server.log)) (sends now [])).after.waiting ≡ server.waiting
      by_tail true = refl
      by_tail false = refl

      by_test : (test : Bool) → WaitsOn (cond test (adopts server view) (ignored server))
      by_test true = by_tail (is_tail view server.id)
      by_test false = refl

  ask_waits : (query : Query) (q part : ℕ) (pairs : List (EventId × EventId)) → WaitsAfter server (after_ask server query).after (Ask q part pairs)
  ask_waits query q part pairs = by_view server.view
    where
      by_room : (full : Bool) → WaitsAfter server (cond full (ignored server) (sends (record server { waiting = server.waiting ++ query ∷ [] }) [])).after (Ask q part pairs)
      by_room true = waits_same refl
      by_room false = waits_one query refl refl

      by_test : (view : View) (other : Bool) → WaitsAfter server (cond other (sends server (refer_packet server view query ∷ [])) (waits server query)).after (Ask q part pairs)
      by_test view true = waits_same refl
      by_test view false = by_room (leb most_waiting (length server.waiting))

      by_view : (view : Option View) → WaitsAfter server (asked_in server query view).after (Ask q part pairs)
      by_view None = waits_same refl
      by_view (Some view) = by_test view (not (is_member server) || is_for_tail server query)

  client_waits : (client : ClientId) (message : Message) → WaitsAfter server (from_client server client message).after message
  client_waits client (Request seq command) = waits_same (request_waits client seq command)
  client_waits client (Ask q part pairs) = ask_waits (record { client = client; q = q; part = part; pairs = pairs }) q part pairs
  client_waits client other = waits_same refl

  server_waits : (from : ServerId) (message : Message) → WaitsAfter server (from_server server from message).after message
  server_waits from (Append first entries) = waits_same (append_waits from first entries)
  server_waits from (Ack done len) = waits_same (ack_waits from done len)
  server_waits from other = waits_same refl

  manager_waits : (message : Message) → WaitsAfter server (from_manager server message).after message
  manager_waits (NewView view) = waits_same (view_waits view)
  manager_waits other = waits_same refl

  sender_waits : (from to : nodes.Node) (message : Message) → WaitsAfter server (server_takes server (record { from = from; to = to; message = message })).after message
  sender_waits ToManager to message = manager_waits message
  sender_waits (ToClient client) to message = client_waits client message
  sender_waits (ToServer from) to message = server_waits from message

  pub takes_waits : (packet : Packet) → WaitsAfter server (server_takes server packet).after packet.message
  takes_waits packet = sender_waits packet.from packet.to packet.message

-- a query that the tail takes waits, where there is room
pub tail_waits : (server : Server) (view : View) (query : Query) → server.view ≡ Some view → is_member server ≡ true → is_at_tail server ≡ true → length server.waiting < most_waiting
    → (after_ask server query).after.waiting ≡ server.waiting ++ query ∷ []
tail_waits server view query adopted member tail room =
    let test : (not (is_member server) || is_for_tail server query) ≡ false = ap (λ b. not b || is_for_tail server query) member ∙ ap (λ b. eqb query.part 2 && not b) tail ∙ never (eqb query.part 2) in
    let full : leb most_waiting (length server.waiting) ≡ false = not_full (leb most_waiting (length server.waiting)) refl in
    ap (λ v. (asked_in server query v).after.waiting) adopted ∙ ap (λ b. (cond b (sends server (refer_packet server view query ∷ [])) (waits server query)).after.waiting) test
    ∙ ap (λ b. (cond b (ignored server) (sends (record server { waiting = server.waiting ++ query ∷ [] }) [])).after.waiting) full
  where
    never : (b : Bool) → b && false ≡ false
    never true = refl
    never false = refl

    not_full : (full : Bool) → leb most_waiting (length server.waiting) ≡ full → leb most_waiting (length server.waiting) ≡ false
    not_full false is = is
    not_full true is = absurd (omega (arith, leb-true most_waiting (length server.waiting) is))
