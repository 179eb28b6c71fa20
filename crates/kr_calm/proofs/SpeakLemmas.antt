-- What servers and clients send of queries: servers ask nothing, and refer to views that they have adopted.
use Rattle.kr_order.specs.declared.message.Node.TheVariants.{Manager as ToManager, Client as ToClient, Server as ToServer}
use Rattle.kr_order.specs.declared.message.Node as nodes
use Rattle.kr_protocol.specs.Server.{Server, next, prev, is_server, may_adopt, viewing, is_at_tail, is_member, server_takes, server_works, server_ticks, from_client, from_server, from_manager, requested, enters, enters_new, may_enter, appended, advances, sends, window, window_to, takes_entries, missing, after_request, after_append, after_ack, after_ask, asked_in, waits, is_for_tail, refer_packet, most_waiting, hears, acknowledges, ack, ack_to, follows, feeds, adopts, reply_packet, acknowledged, most_entries, passes_on, lasts, newly_applied, tells_joined, joined_packet, behind, work_packet, worked_in, answer_packet, view_number}
use Rattle.kr_order.specs.declared.answer.Query.{Query}
use Rattle.kr_protocol.specs.Reaction.{ignored}
use Rattle.std.proofs.Common.{Bool, List, [], cond, drop, eqb, false, leb, length, ltb, map, not, take, true, ℕ, ◌&&◌, ◌++◌, ◌+◌, ◌||◌, ◌∷◌, ◌≤◌}
use Rattle.std.specs.Prelude.{All, None, Option, Some, max, min}
use Rattle.std.proofs.lemmas.List.Elements.{All-append, All-cons, All-map, All-nil}
use Rattle.kr_order.specs.Done.{done_of, last_of}
use Rattle.kr_order.specs.View.{is_tail}
use Rattle.kr_order.specs.declared.history.Command.{Command}
use Rattle.kr_order.specs.declared.history.DoneEntry.{DoneEntry}
use Rattle.kr_order.specs.declared.history.Entry.{Entry}
use Rattle.kr_order.specs.declared.ids.ClientId.{ClientId}
use Rattle.kr_order.specs.declared.ids.ServerId.{ServerId}
use Rattle.kr_order.specs.declared.message.Message.{Message}
use Rattle.kr_order.specs.declared.message.Message.TheVariants.{Ack, Append, Ask, NewView, Refer, Request}
use Rattle.kr_order.specs.declared.message.Node.{Node}
use Rattle.kr_order.specs.declared.message.Packet.{Packet}
use Rattle.kr_order.specs.declared.view.View.{View}
use Rattle.kr_world.proofs.steps.ListFacts.{all_of}

-- a message that a server may send whose view's number is no greater than this
abbrev pub MayBeSaid : ℕ → Message → Type 0
MayBeSaid n (Ask q part pairs) = ⊥
MayBeSaid n (Refer q part view) = view.number ≤ n
MayBeSaid n other = Unit {0}

abbrev pub MayBeSent : ℕ → Packet → Type 0
MayBeSent n packet = MayBeSaid n packet.message

module _ (n : ℕ) where
  abbrev All_sent : List Packet → Type 0
  All_sent packets = All (MayBeSent n) packets

  one_sent : (packet : Packet) → MayBeSent n packet → All_sent (packet ∷ [])
  one_sent packet may = All-cons (MayBeSent n) packet [] may (All-nil (MayBeSent n))

  window_may : (server : Server) → All_sent (window server)
  window_may server = by_next (next server)
    where
      by_next : (to : Option ServerId) → All_sent (window_to server to)
      by_next None = All-nil (MayBeSent n)
      by_next (Some to) = by_test (ltb server.fed (length server.log))
        where
          by_test : (more : Bool) → All_sent (cond more (record { from = ToServer server.id; to = ToServer to; message = Append (server.fed + 1) (take most_entries (drop server.fed server.log)) } ∷ []) [])
          by_test true = one_sent _ tt
          by_test false = All-nil (MayBeSent n)

  ack_may : (server : Server) (to : Option ServerId) → All_sent (ack_to server to)
  ack_may server None = All-nil (MayBeSent n)
  ack_may server (Some to) = one_sent _ tt

  passes_may : (server : Server) (entries : List Entry) → All_sent (passes_on server entries)
  passes_may server [] = All-nil (MayBeSent n)
  passes_may server (entry ∷ more) = window_may server

  ticks_may : (server : Server) → All_sent (ack server ++ window server)
  ticks_may server = All-append (MayBeSent n) (ack server) (window server) (ack_may server (prev server)) (window_may server)

  advances_may : (server : Server) (upto : ℕ) → All_sent (advances server upto).sent
  advances_may server upto = by_tail (is_at_tail server)
    where
      by_tail : (tail : Bool) → All_sent (cond tail (map (reply_packet server.id) (lasts (newly_applied server upto))) [])
      by_tail true =
          let dones = lasts (newly_applied server upto) in
          All-map (MayBeSent n) (reply_packet server.id) dones (all_of (λ done. MayBeSent n (reply_packet server.id done)) (λ done. tt) dones)
      by_tail false = All-nil (MayBeSent n)

  enters_may : (server : Server) (entry : Entry) → All_sent (enters server entry).sent
  enters_may server entry = by_tail (is_at_tail server)
    where
      grown : Server
      grown = appended server (entry ∷ [])

      by_tail : (tail : Bool) → All_sent (cond tail (advances grown (length grown.log)) (sends grown (window grown))).sent
      by_tail true = advances_may grown (length grown.log)
      by_tail false = window_may grown

  enters_new_may : (server : Server) (entry : Entry) → All_sent (enters_new server entry).sent
  enters_new_may server entry = by_test (may_enter server entry)
    where
      by_test : (may : Bool) → All_sent (cond may (enters server entry) (ignored server)).sent
      by_test true = enters_may server entry
      by_test false = All-nil (MayBeSent n)

  requested_may : (server : Server) (entry : Entry) (last : Option DoneEntry) → All_sent (requested server entry last).sent
  requested_may server entry None = enters_new_may server entry
  requested_may server entry (Some last) = by_test (eqb last.entry.seq entry.seq)
    where
      by_test : (same : Bool) → All_sent (cond same (sends server (reply_packet server.id last ∷ [])) (enters_new server entry)).sent
      by_test true = one_sent _ tt
      by_test false = enters_new_may server entry

  request_may : (server : Server) (client : ClientId) (seq : ℕ) (command : Command) → All_sent (after_request server client seq command).sent
  request_may server client seq command = by_test (is_member server)
    where
      by_test : (member : Bool) → All_sent (cond member (requested server (record { client = client; seq = seq; command = command }) (last_of client (done_of (acknowledged server)))) (ignored server)).sent
      by_test true = requested_may server (record { client = client; seq = seq; command = command }) (last_of client (done_of (acknowledged server)))
      by_test false = All-nil (MayBeSent n)

  append_may : (server : Server) (from : ServerId) (first : ℕ) (entries : List Entry) → All_sent (after_append server from first entries).sent
  append_may server from first entries = by_test (is_server (prev server) from)
    where
      lacks : List Entry
      lacks = missing server.log first entries

      grown : Server
      grown = appended server lacks

      behind_may : (after : Server) → All_sent (ack_to after (Some from) ++ passes_on after lacks)
      behind_may after = All-append (MayBeSent n) (ack_to after (Some from)) (passes_on after lacks) (ack_may after (Some from)) (passes_may after lacks)

      by_tail : (tail : Bool) → All_sent (follows (cond tail (advances grown (length (server.log ++ lacks))) (sends grown [])) (λ after. sends after (ack_to after (Some from) ++ passes_on after lacks))).sent
      by_tail true =
          let first = advances grown (length (server.log ++ lacks)) in
          All-append (MayBeSent n) first.sent (ack_to first.after (Some from) ++ passes_on first.after lacks) (advances_may grown (length (server.log ++ lacks))) (behind_may first.after)
      by_tail false = behind_may grown

      by_test : (test : Bool) → All_sent (cond test (takes_entries server from lacks) (ignored server)).sent
      by_test true = by_tail (is_at_tail server)
      by_test false = All-nil (MayBeSent n)

  acknowledges_may : (server : Server) (upto : ℕ) → All_sent (acknowledges server upto).sent
  acknowledges_may server upto = by_test (ltb server.done upto)
    where
      by_test : (more : Bool) → All_sent (cond more (follows (advances server upto) (λ after. sends after (ack after))) (sends server [])).sent
      by_test true =
          let first = advances server upto in
          All-append (MayBeSent n) first.sent (ack first.after) (advances_may server upto) (ack_may first.after (prev first.after))
      by_test false = All-nil (MayBeSent n)

  feeds_may : (server : Server) (upto : ℕ) → All_sent (feeds server upto).sent
  feeds_may server upto = by_test (ltb server.fed upto && ltb upto (length server.log))
    where
      after : Server
      after = record server { fed = max server.fed upto }

      by_test : (news : Bool) → All_sent (cond news (window after) [])
      by_test true = window_may after
      by_test false = All-nil (MayBeSent n)

  joined_may : (server : Server) (from : ServerId) (len : ℕ) → All_sent (tells_joined server from len).sent
  joined_may server from len = by_test (is_server (behind server) from && leb server.need len)
    where
      by_test : (caught : Bool) → All_sent (cond caught (joined_packet server from ∷ []) [])
      by_test true = one_sent _ tt
      by_test false = All-nil (MayBeSent n)

  hears_may : (server : Server) (from : ServerId) (done len : ℕ) → All_sent (hears server from done len).sent
  hears_may server from done len =
      let one = acknowledges server (min done (length server.log)) in
      let two = feeds one.after (min len (length one.after.log)) in
      let three = tells_joined two.after from len in
      All-append (MayBeSent n) (one.sent ++ two.sent) three.sent (All-append (MayBeSent n) one.sent two.sent (acknowledges_may server (min done (length server.log))) (feeds_may one.after (min len (length one.after.log)))) (joined_may two.after from len)

  told_may : (server : Server) (from : ServerId) (done len : ℕ) → All_sent (after_ack server from done len).sent
  told_may server from done len = by_test (is_server (next server) from)
    where
      by_test : (test : Bool) → All_sent (cond test (hears server from done len) (ignored server)).sent
      by_test true = hears_may server from done len
      by_test false = All-nil (MayBeSent n)

  view_may : (server : Server) (view : View) → All_sent (from_manager server (NewView view)).sent
  view_may server view = by_test (may_adopt server view)
    where
      now : Server
      now = viewing server view

      by_tail : (tail : Bool) → All_sent (follows (cond tail (advances now (length server.log)) (sends now [])) server_ticks).sent
      by_tail true =
          let first = advances now (length server.log) in
          All-append (MayBeSent n) first.sent (ack first.after ++ window first.after) (advances_may now (length server.log)) (ticks_may first.after)
      by_tail false = ticks_may now

      by_test : (test : Bool) → All_sent (cond test (adopts server view) (ignored server)).sent
      by_test true = by_tail (is_tail view server.id)
      by_test false = All-nil (MayBeSent n)

  waits_may : (server : Server) (query : Query) → All_sent (waits server query).sent
  waits_may server query = by_test (leb most_waiting (length server.waiting))
    where
      by_test : (full : Bool) → All_sent (cond full (ignored server) (sends (record server { waiting = server.waiting ++ query ∷ [] }) [])).sent
      by_test true = All-nil (MayBeSent n)
      by_test false = All-nil (MayBeSent n)

  ask_may : (server : Server) (query : Query) → view_number server.view ≤ n → All_sent (after_ask server query).sent
  ask_may server query old = by_view server.view old
    where
      by_test : (view : View) → view.number ≤ n → (other : Bool) → All_sent (cond other (sends server (refer_packet server view query ∷ [])) (waits server query)).sent
      by_test view old true = one_sent _ old
      by_test view old false = waits_may server query

      by_view : (view : Option View) → view_number view ≤ n → All_sent (asked_in server query view).sent
      by_view None old = All-nil (MayBeSent n)
      by_view (Some view) old = by_test view old (not (is_member server) || is_for_tail server query)

  work_may : (server : Server) (query : Query) → view_number server.view ≤ n → MayBeSent n (work_packet server query)
  work_may server query old = by_view server.view old
    where
      by_test : (view : View) → view.number ≤ n → (other : Bool) → MayBeSent n (cond other (refer_packet server view query) (answer_packet server query))
      by_test view old true = old
      by_test view old false = tt

      by_view : (view : Option View) → view_number view ≤ n → MayBeSent n (worked_in server query view)
      by_view None old = tt
      by_view (Some view) old = by_test view old (is_for_tail server query)

  pub works_may : (server : Server) → view_number server.view ≤ n → All (MayBeSent n) (server_works server).sent
  works_may server old =
      All-map (MayBeSent n) (work_packet server) server.waiting (all_of (λ query. MayBeSent n (work_packet server query)) (λ query. work_may server query old) server.waiting)

  pub tick_may : (server : Server) → All (MayBeSent n) (server_ticks server).sent
  tick_may server = ticks_may server

  client_may : (server : Server) (client : ClientId) (message : Message) → view_number server.view ≤ n → All_sent (from_client server client message).sent
  client_may server client (Request seq command) old = request_may server client seq command
  client_may server client (Ask q part pairs) old = ask_may server (record { client = client; q = q; part = part; pairs = pairs }) old
  client_may server client other old = All-nil (MayBeSent n)

  server_may : (server : Server) (from : ServerId) (message : Message) → All_sent (from_server server from message).sent
  server_may server from (Append first entries) = append_may server from first entries
  server_may server from (Ack done len) = told_may server from done len
  server_may server from other = All-nil (MayBeSent n)

  manager_may : (server : Server) (message : Message) → All_sent (from_manager server message).sent
  manager_may server (NewView view) = view_may server view
  manager_may server other = All-nil (MayBeSent n)

  sender_may : (server : Server) (from to : nodes.Node) (message : Message) → view_number server.view ≤ n → All_sent (server_takes server (record { from = from; to = to; message = message })).sent
  sender_may server ToManager to message old = manager_may server message
  sender_may server (ToClient client) to message old = client_may server client message old
  sender_may server (ToServer from) to message old = server_may server from message

  pub takes_may : (server : Server) (packet : Packet) → view_number server.view ≤ n → All (MayBeSent n) (server_takes server packet).sent
  takes_may server packet old = sender_may server packet.from packet.to packet.message old
