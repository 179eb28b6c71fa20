-- What a server sends can be spelt, whatever made it send that.
use Rattle.std.proofs.Common.{◌≡◌, ℕ, ◌+◌, ◌≤◌, Bool, true, false, cond, ltb, List, [], ◌∷◌, length, map, take, drop, refl, arith}
use Rattle.std.specs.Prelude.{Option, None, Some, All}
use Rattle.std.proofs.lemmas.Bool.{ltb-true}
use Rattle.std.proofs.lemmas.List.{length-take, length-drop, length-map}
use Rattle.std.proofs.lemmas.List.Elements.{All-nil, All-cons, All-map, All-take, All-drop, All-weaker, All-contains}
use Rattle.kr_order.specs.declared.ids.ClientId.{ClientId}
use Rattle.kr_order.specs.declared.ids.ServerId.{ServerId}
use Rattle.kr_order.specs.declared.ids.EventId.{EventId}
use Rattle.kr_order.specs.declared.answer.Answer.{Answer}
use Rattle.kr_order.specs.declared.answer.Query.{Query}
use Rattle.kr_order.specs.declared.history.Entry.{Entry}
use Rattle.kr_order.specs.declared.history.DoneEntry.{DoneEntry}
use Rattle.kr_order.specs.declared.message.Node.TheVariants.{Server as OfServer}
use Rattle.kr_order.specs.declared.message.Message.TheVariants.{Append}
use Rattle.kr_order.specs.declared.message.Packet.{Packet}
use Rattle.kr_order.specs.declared.view.View.{View}
use Rattle.kr_order.specs.Done.{done_of, last_of}
use Rattle.kr_order.specs.Answer.{partial, answer_to, answers_after}
use Rattle.kr_order.specs.View.{next_of, prev_of}
use Rattle.kr_protocol.specs.Manager.{announces, named_by, view_packet}
use Rattle.kr_protocol.specs.Server.{Server, acknowledged, is_at_tail, is_for_tail, next, prev, lasts, newly_applied, window_of, window, ack_of, ack_to, ack, reply_packet, joined_packet, refer_packet, told_by, answer_packet, worked_in, work_packet}
use Rattle.kr_world.proofs.shapes.SendLemmas.{lasts_all, last_among}
use Rattle.kr_wire.specs.Valid.{IsId, IsEntry, IsView, IsPacket}
use Rattle.wire_fit.specs.Spoken.{IsSpokenQuery, IsSpokenOpen}
use Rattle.wire_fit.proofs.ViewLemmas.{IsServerId, IfServer, named_fit, next_fits, prev_fits, viewed_fits}
use Rattle.wire_fit.proofs.ReplyLemmas.{IsDoneFit, dones_fit}

-- no log is longer than this: more than all packets can bring, and few enough for the numbers of places
abbrev pub most_logged : ℕ
most_logged = 4611686018427387904

-- a server, and what it has, can be spelt
pub record IsFit (server : Server) : Type 0 where
  pub id : IsId server.id.0
  pub view : IsSpokenOpen IsView server.view
  pub log : All IsEntry server.log
  pub long : length server.log ≤ most_logged
  pub done : server.done ≤ most_logged
  pub waiting : All IsSpokenQuery server.waiting

-- one packet
pub one_fits : (packet : Packet) → IsPacket packet → All IsPacket (packet ∷ [])
one_fits packet fits = All-cons IsPacket packet [] fits (All-nil IsPacket)

pub none_fits : All IsPacket []
none_fits = All-nil IsPacket

-- entries of a log, for one that follows
window_of_fits : (id : ServerId) (to : Option ServerId) (fed : ℕ) (log : List Entry) → IsServerId id → IfServer to
    → All IsEntry log → length log ≤ most_logged
    → All IsPacket (window_of id to fed log)
window_of_fits id None fed log from to_fits all long = none_fits
window_of_fits id (Some to) fed log from to_fits all long = by_test (ltb fed (length log)) refl
  where
    passed : Packet
    passed = record { from = OfServer id; to = OfServer to; message = Append (fed + 1) (take 16 (drop fed log)) }

    by_test : (test : Bool) → ltb fed (length log) ≡ test → All IsPacket (cond test (passed ∷ []) [])
    by_test false is = none_fits
    by_test true is =
        let lt = ltb-true fed (length log) is in
        let count = length-take 16 (drop fed log) in
        let left = length-drop fed log in
        one_fits passed (record {
          from = from;
          to = to_fits;
          message = record {
            first_fits = record { above = omega arith; fits = omega arith };
            entries_fit = record {
              count = record { least = omega arith; most = omega arith };
              each = All-take IsEntry 16 (drop fed log) (All-drop IsEntry fed log all);
            };
          };
        })

pub window_fits : (server : Server) → IsFit server → All IsPacket (window server)
window_fits server fits =
    let to = viewed_fits next_of server.view server.id (λ its fit. next_fits its server.id fit) fits.view in
    window_of_fits server.id (next server) server.fed server.log fits.id to fits.log fits.long

-- how far a server is, for one before it
ack_of_fits : (id : ServerId) (to : Option ServerId) (done len : ℕ) → IsServerId id → IfServer to → done ≤ most_logged
    → len ≤ most_logged
    → All IsPacket (ack_of id to done len)
ack_of_fits id None done len from to_fits few few' = none_fits
ack_of_fits id (Some to) done len from to_fits few few' =
    one_fits _ (record { from = from; to = to_fits; message = record { done_fits = omega arith; len_fits = omega arith } })

pub ack_to_fits : (server : Server) (to : Option ServerId) → IsFit server → IfServer to → All IsPacket (ack_to server to)
ack_to_fits server to fits to_fits =
    ack_of_fits server.id to server.done (length server.log) fits.id to_fits fits.done fits.long

pub ack_fits : (server : Server) → IsFit server → All IsPacket (ack server)
ack_fits server fits =
    ack_to_fits server (prev server) fits
    (viewed_fits prev_of server.view server.id (λ its fit. prev_fits its server.id fit) fits.view)

-- replies
pub reply_packet_fits : (id : ServerId) (done : DoneEntry) → IsServerId id → IsDoneFit done → IsPacket (reply_packet id done)
reply_packet_fits id done from fits =
    record { from = from; to = fits.entry.client; message = record { seq_fits = fits.entry.seq; placed_fits = fits.placed } }

-- the entries of a front of a log that can be spelt, done
front_done : (log : List Entry) (n : ℕ) → All IsEntry log → length log ≤ most_logged → All IsDoneFit (done_of (take n log))
front_done log n all long =
    let short = length-take n log in
    dones_fit [] (take n log) (omega arith) (All-take IsEntry n log all)

pub replies_fit : (server : Server) (upto : ℕ) → IsFit server
    → All IsPacket (map (reply_packet server.id) (lasts (newly_applied server upto)))
replies_fit server upto fits =
    let dones = done_of (take upto server.log) in
    let news = lasts (newly_applied server upto) in
    let all : All IsDoneFit news =
    lasts_all IsDoneFit (newly_applied server upto) (All-drop IsDoneFit server.done dones (front_done server.log upto fits.log fits.long)) in
    All-map IsPacket (reply_packet server.id) news
    (All-weaker IsDoneFit (λ done. IsPacket (reply_packet server.id done))
    (λ done is. reply_packet_fits server.id done fits.id is) news all)

-- the last applied command of a client, replied again
pub again_fits : (server : Server) (client : ClientId) (last : DoneEntry) → IsFit server
    → last_of client (done_of (acknowledged server)) ≡ Some last
    → IsPacket (reply_packet server.id last)
again_fits server client last fits is =
    let dones = done_of (acknowledged server) in
    reply_packet_fits server.id last fits.id
    (All-contains IsDoneFit dones last (front_done server.log server.done fits.log fits.long) (last_among client dones last is))

-- that a joiner has caught up
pub joined_packet_fits : (server : Server) (joiner : ServerId) → IsFit server → IsServerId joiner
    → IsPacket (joined_packet server joiner)
joined_packet_fits server joiner fits joins = record { from = fits.id; to = tt; message = joins }

-- which view a server has adopted
pub refer_packet_fits : (server : Server) (view : View) (query : Query) → IsFit server → IsView view → IsSpokenQuery query
    → IsPacket (refer_packet server view query)
refer_packet_fits server view query fits view_fits query_fits =
    record {
      from = fits.id;
      to = query_fits.client;
      message = record { query = record { q_fits = query_fits.q; part_fits = query_fits.part }; view_fits = view_fits };
    }

-- answers: one for each pair
answers_long : (server : Server) (pairs : List (EventId × EventId))
    → length (told_by (is_at_tail server) (answers_after (acknowledged server) pairs)) ≡ length pairs
answers_long server pairs = by_test (is_at_tail server)
  where
    all : List Answer
    all = answers_after (acknowledged server) pairs

    by_test : (tail : Bool) → length (cond tail all (map partial all)) ≡ length pairs
    by_test true = length-map pairs (λ pair. answer_to (acknowledged server) pair.0.0 pair.1.0)
    by_test false =
        omega (arith, length-map all partial, length-map pairs (λ pair. answer_to (acknowledged server) pair.0.0 pair.1.0))

answer_packet_fits : (server : Server) (query : Query) → IsFit server → IsSpokenQuery query
    → IsPacket (answer_packet server query)
answer_packet_fits server query fits query_fits =
    let least = query_fits.pairs.count.least in
    let most = query_fits.pairs.count.most in
    let done = fits.done in
    let long = answers_long server query.pairs in
    record {
      from = fits.id;
      to = query_fits.client;
      message = record {
        query = record { q_fits = query_fits.q; part_fits = query_fits.part };
        told_fits = record {
          entry = omega arith;
          answers = record { count = record { least = omega arith; most = omega arith }; each = λ k d lt. tt };
        };
      };
    }

-- what is said to a query that waited
pub work_packet_fits : (server : Server) (query : Query) → IsFit server → IsSpokenQuery query
    → IsPacket (work_packet server query)
work_packet_fits server query fits query_fits = by_view server.view fits.view
  where
    by_test : (view : View) → IsView view → (other : Bool)
        → IsPacket (cond other (refer_packet server view query) (answer_packet server query))
    by_test view view_fits true = refer_packet_fits server view query fits view_fits query_fits
    by_test view view_fits false = answer_packet_fits server query fits query_fits

    by_view : (view : Option View) → IsSpokenOpen IsView view → IsPacket (worked_in server query view)
    by_view None fit = answer_packet_fits server query fits query_fits
    by_view (Some view) fit = by_test view fit (is_for_tail server query)

-- a view, for all whom it names
pub announces_fit : (view : View) → IsView view → All IsPacket (announces view)
announces_fit view fits =
    All-map IsPacket (view_packet view) (named_by view)
    (All-weaker IsServerId (λ id. IsPacket (view_packet view id))
    (λ id is. record { from = tt; to = is; message = fits }) (named_by view) (named_fit view fits))
