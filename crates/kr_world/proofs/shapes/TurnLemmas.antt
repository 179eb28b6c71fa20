-- What a server does when its turn comes, with a query, and with what it ignores, has the shape of a reaction.
use Rattle.std.proofs.Common.{◌≡◌, ℕ, ◌≤◌, Bool, true, false, not, ◌||◌, cond, leb, List, [], ◌∷◌, ◌++◌, length, refl, sym, arith, inl}
use Rattle.std.specs.Prelude.{Option, None, Some, All, Contains}
use Rattle.std.proofs.lemmas.Bool.{leb-false}
use Rattle.std.proofs.lemmas.List.{append-nil, length-append, length-map}
use Rattle.std.proofs.lemmas.List.Elements.{All-nil, All-cons, All-append, All-map, All-weaker, All-contains_itself}
use Rattle.kr_order.specs.declared.ids.ClientId.{ClientId}
use Rattle.kr_order.specs.declared.ids.EventId.{EventId}
use Rattle.kr_order.specs.declared.answer.Query.{Query}
use Rattle.kr_order.specs.declared.message.Node as nodes
use Rattle.kr_order.specs.declared.message.Node.TheVariants.{Client as OfClient}
use Rattle.kr_order.specs.declared.message.Message.TheVariants.{Ask}
use Rattle.kr_order.specs.declared.message.Packet.{Packet}
use Rattle.kr_order.specs.declared.view.View.{View}
use Rattle.kr_protocol.specs.Reaction.{ignored}
use Rattle.kr_protocol.specs.Server.{Server, most_waiting, sends, prev, window, ack, is_member, is_for_tail, refer_packet, waits, asked_in, after_ask, answer_packet, worked_in, work_packet, server_works, server_ticks}
use Rattle.kr_world.proofs.shapes.ShapeLemmas.{gains_none, done_stays, waits_on, waits_more, waits_none, sends_answer, sends_view, IsSent, HasShape}
use Rattle.kr_world.proofs.shapes.SendLemmas.{window_few, window_sent, ack_few, ack_sent}

-- a server that stays as it is
pub stays_shape :
    (came : Option Packet) (server : Server) (sent : List Packet)
    → All (IsSent came server server) sent
    → length sent ≤ 2
    → HasShape came server (sends server sent)
stays_shape came server sent says few =
    record {
      id = refl;
      view = refl;
      need = refl;
      more = [];
      log = sym (append-nil server.log);
      gains = gains_none came;
      done = done_stays came;
      fed = omega arith;
      waiting = waits_on came;
      sent = says;
      replies = 0;
      middle = λ other. refl;
      newly = omega arith;
      few = omega arith;
      some = inl refl;
    }

pub ignored_shape : (came : Option Packet) (server : Server) → HasShape came server (ignored server)
ignored_shape came server = stays_shape came server [] (All-nil (IsSent came server server)) (omega arith)

-- a query waits where there is room
waits_shape :
    (server : Server) (client : ClientId) (to : nodes.Node) (q part : ℕ) (pairs : List (EventId × EventId))
    → HasShape (Some (record { from = OfClient client; to = to; message = Ask q part pairs })) server (waits server (record { client = client; q = q; part = part; pairs = pairs }))
waits_shape server client to q part pairs = by_test (leb most_waiting (length server.waiting)) refl
  where
    query : Query
    query = record { client = client; q = q; part = part; pairs = pairs }

    came : Option Packet
    came = Some (record { from = OfClient client; to = to; message = Ask q part pairs })

    by_test :
        (full : Bool)
        → leb most_waiting (length server.waiting) ≡ full
        → HasShape came server (cond full (ignored server) (sends (record server { waiting = server.waiting ++ query ∷ [] }) []))
    by_test true is = ignored_shape came server
    by_test false is =
        record {
          id = refl;
          view = refl;
          need = refl;
          more = [];
          log = sym (append-nil server.log);
          gains = gains_none came;
          done = done_stays came;
          fed = omega arith;
          waiting = waits_more client to q part pairs (leb-false most_waiting (length server.waiting) is);
          sent = All-nil (IsSent came server (record server { waiting = server.waiting ++ query ∷ [] }));
          replies = 0;
          middle = λ other. refl;
          newly = omega arith;
          few = omega arith;
          some = inl refl;
        }

-- or its client is told of the view
refers_shape : (came : Option Packet) (server : Server) (view : View) (query : Query) → HasShape came server (sends server (refer_packet server view query ∷ []))
refers_shape came server view query =
    let Sent = IsSent came server server in
    stays_shape came server (refer_packet server view query ∷ []) (All-cons Sent (refer_packet server view query) [] (sends_view view query) (All-nil Sent)) (omega arith)

pub ask_shape :
    (server : Server) (client : ClientId) (to : nodes.Node) (q part : ℕ) (pairs : List (EventId × EventId))
    → HasShape (Some (record { from = OfClient client; to = to; message = Ask q part pairs })) server (after_ask server (record { client = client; q = q; part = part; pairs = pairs }))
ask_shape server client to q part pairs = by_view server.view
  where
    query : Query
    query = record { client = client; q = q; part = part; pairs = pairs }

    came : Option Packet
    came = Some (record { from = OfClient client; to = to; message = Ask q part pairs })

    by_test : (view : View) (other : Bool) → HasShape came server (cond other (sends server (refer_packet server view query ∷ [])) (waits server query))
    by_test view true = refers_shape came server view query
    by_test view false = waits_shape server client to q part pairs

    by_view : (view : Option View) → HasShape came server (asked_in server query view)
    by_view None = ignored_shape came server
    by_view (Some view) = by_test view (not (is_member server) || is_for_tail server query)

-- what is said to a query that waited
worked_sent : (old after : Server) (query : Query) (view : Option View) → Contains old.waiting query → IsSent None old after (worked_in old query view)
worked_sent old after query None at = sends_answer query at
worked_sent old after query (Some view) at = by_test (is_for_tail old query)
  where
    by_test : (other : Bool) → IsSent None old after (cond other (refer_packet old view query) (answer_packet old query))
    by_test true = sends_view view query
    by_test false = sends_answer query at

-- when it works, it says something to all that wait
pub works_shape : (server : Server) → HasShape None server (server_works server)
works_shape server =
    let after = record server { waiting = [] } in
    let Sent : Query → Type 0 = λ query. IsSent None server after (work_packet server query) in
    let said : All Sent server.waiting = All-weaker (Contains server.waiting) Sent (λ query at. worked_sent server after query server.view at) server.waiting (All-contains_itself server.waiting) in
    record {
      id = refl;
      view = refl;
      need = refl;
      more = [];
      log = sym (append-nil server.log);
      gains = gains_none None;
      done = done_stays None;
      fed = omega arith;
      waiting = waits_none None;
      sent = All-map (IsSent None server after) (work_packet server) server.waiting said;
      replies = 0;
      middle = λ other. refl;
      newly = omega arith;
      few = omega (arith, length-map server.waiting (work_packet server));
      some = inl refl;
    }

-- when it ticks, it acknowledges and sends its window
pub ticks_shape : (server : Server) → HasShape None server (server_ticks server)
ticks_shape server =
    let sent = All-append (IsSent None server server) (ack server) (window server) (ack_sent None server server (prev server)) (window_sent None server server) in
    let long = length-append (ack server) (window server) in
    stays_shape None server (ack server ++ window server) sent (omega (arith, ack_few server (prev server), window_few server))
