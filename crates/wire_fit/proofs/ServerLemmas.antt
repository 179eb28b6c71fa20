-- What a server does with a packet that can be spelt: it sends what can be spelt, and what it has then can be.
use Rattle.std.proofs.Common.{◌≡◌, ℕ, ◌+◌, ◌-◌, ◌≤◌, Bool, true, false, cond, not, ◌&&◌, ◌||◌, eqb, leb, ltb, List, [], ◌∷◌, ◌++◌, length, map, drop, refl, arith}
use Rattle.std.specs.Prelude.{min, max, Option, None, Some, All}
use Rattle.std.proofs.lemmas.List.{length-append, length-drop}
use Rattle.std.proofs.lemmas.List.Elements.{All-nil, All-cons, All-append, All-push, All-map, All-drop, All-weaker}
use Rattle.kr_order.specs.declared.ids.ClientId.{ClientId}
use Rattle.kr_order.specs.declared.ids.ServerId.{ServerId}
use Rattle.kr_order.specs.declared.answer.Query.{Query}
use Rattle.kr_order.specs.declared.history.Entry.{Entry}
use Rattle.kr_order.specs.declared.history.DoneEntry.{DoneEntry}
use Rattle.kr_order.specs.declared.message.Node as nodes
use Rattle.kr_order.specs.declared.message.Node.TheVariants.{Manager, Client as OfClient, Server as OfServer}
use Rattle.kr_order.specs.declared.message.Message.{Message}
use Rattle.kr_order.specs.declared.message.Message.TheVariants.{Request, Append, Ack, NewView, Ask}
use Rattle.kr_order.specs.declared.message.Packet.{Packet}
use Rattle.kr_order.specs.declared.view.View.{View}
use Rattle.kr_order.specs.Done.{done_of, last_of}
use Rattle.kr_protocol.specs.Reaction.{Reaction, ignored}
use Rattle.kr_protocol.specs.Server.{Server, most_waiting, sends, follows, acknowledged, is_at_tail, is_member, is_server, is_for_tail, next, prev, behind, lasts, newly_applied, advances, appended, advances_at_tail, window, ack_to, ack, reply_packet, joined_packet, refer_packet, commits_or_passes_on, enters, may_enter, enters_new, requested, after_request, missing, passes_on, takes_entries, after_append, acknowledges, feeds, tells_joined, hears, after_ack, server_ticks, viewing, may_adopt, adopts, after_view, waits, asked_in, after_ask, from_client, from_server, from_manager, taken_from, server_takes, work_packet, server_works}
use Rattle.kr_wire.specs.Valid.{IsEntry, IsView, IsPacket, IsMessage, IsAppend, IsOf, sender_of}
use Rattle.wire_fit.specs.Spoken.{IsSpokenQuery, IsSpokenOpen}
use Rattle.wire_fit.proofs.ViewLemmas.{IsServerId}
use Rattle.wire_fit.proofs.SendLemmas.{most_logged, IsFit, one_fits, none_fits, window_fits, ack_to_fits, ack_fits, replies_fit, again_fits, joined_packet_fits, refer_packet_fits, work_packet_fits}

-- the server afterwards can be spelt, and so can what it sends
pub record IsFitReaction (reaction : Reaction Server) : Type 0 where
  pub after : IsFit reaction.after
  pub sent : All IsPacket reaction.sent

pub sends_fit : (server : Server) (sent : List Packet) → IsFit server → All IsPacket sent → IsFitReaction (sends server sent)
sends_fit server sent fits said = record { after = fits; sent = said }

pub ignored_fits : (server : Server) → IsFit server → IsFitReaction (ignored server)
ignored_fits server fits = record { after = fits; sent = none_fits }

follows_fit : (first : Reaction Server) (goes_on : Server → Reaction Server) → IsFitReaction first
    → ((server : Server) → IsFit server → IsFitReaction (goes_on server))
    → IsFitReaction (follows first goes_on)
follows_fit first goes_on fits on =
    let second = on first.after fits.after in
    record { after = second.after; sent = All-append IsPacket first.sent (goes_on first.after).sent fits.sent second.sent }

-- so many entries are acknowledged
done_fits : (server : Server) (upto : ℕ) → upto ≤ most_logged → IsFit server → IsFit (record server { done = upto })
done_fits server upto few fits =
    record { id = fits.id; view = fits.view; log = fits.log; long = fits.long; done = few; waiting = fits.waiting }

advances_fit : (server : Server) (upto : ℕ) → upto ≤ most_logged → IsFit server → IsFitReaction (advances server upto)
advances_fit server upto few fits =
    record { after = done_fits server upto few fits; sent = by_test (is_at_tail server) }
  where
    by_test : (tail : Bool) → All IsPacket (cond tail (map (reply_packet server.id) (lasts (newly_applied server upto))) [])
    by_test true = replies_fit server upto fits
    by_test false = none_fits

advances_at_tail_fits : (server : Server) → IsFit server → IsFitReaction (advances_at_tail server)
advances_at_tail_fits server fits = by_test (is_at_tail server)
  where
    by_test : (tail : Bool) → IsFitReaction (cond tail (advances server (length server.log)) (sends server []))
    by_test true = advances_fit server (length server.log) fits.long fits
    by_test false = sends_fit server [] fits none_fits

commits_or_passes_on_fit : (server : Server) → IsFit server → IsFitReaction (commits_or_passes_on server)
commits_or_passes_on_fit server fits = by_test (is_at_tail server)
  where
    by_test : (tail : Bool) → IsFitReaction (cond tail (advances server (length server.log)) (sends server (window server)))
    by_test true = advances_fit server (length server.log) fits.long fits
    by_test false = sends_fit server (window server) fits (window_fits server fits)

-- there is room for what a packet may bring
abbrev pub HasRoom : Server → Type 0
HasRoom server = length server.log + 16 ≤ most_logged

appended_fits : (server : Server) (entries : List Entry) → IsFit server → HasRoom server → All IsEntry entries
    → length entries ≤ 16 → IsFit (appended server entries)
appended_fits server entries fits room all few =
    let long = length-append server.log entries in
    record {
      id = fits.id;
      view = fits.view;
      log = All-append IsEntry server.log entries fits.log all;
      long = omega arith;
      done = fits.done;
      waiting = fits.waiting;
    }

-- ---- requests

enters_new_fits : (server : Server) (entry : Entry) → IsFit server → HasRoom server → IsEntry entry
    → IsFitReaction (enters_new server entry)
enters_new_fits server entry fits room fit = by_test (may_enter server entry)
  where
    by_test : (may : Bool) → IsFitReaction (cond may (enters server entry) (ignored server))
    by_test true =
        commits_or_passes_on_fit (appended server (entry ∷ []))
        (appended_fits server (entry ∷ []) fits room (All-cons IsEntry entry [] fit (All-nil IsEntry)) (omega arith))
    by_test false = ignored_fits server fits

requested_fits : (server : Server) (entry : Entry) (last : Option DoneEntry)
    → last_of entry.client (done_of (acknowledged server)) ≡ last
    → IsFit server → HasRoom server → IsEntry entry → IsFitReaction (requested server entry last)
requested_fits server entry None is fits room fit = enters_new_fits server entry fits room fit
requested_fits server entry (Some last) is fits room fit = by_test (eqb last.entry.seq entry.seq)
  where
    by_test : (same : Bool)
        → IsFitReaction (cond same (sends server (reply_packet server.id last ∷ [])) (enters_new server entry))
    by_test true =
        sends_fit server (reply_packet server.id last ∷ []) fits
        (one_fits (reply_packet server.id last) (again_fits server entry.client last fits is))
    by_test false = enters_new_fits server entry fits room fit

request_fits : (server : Server) (entry : Entry) → IsFit server → HasRoom server → IsEntry entry
    → IsFitReaction (after_request server entry.client entry.seq entry.command)
request_fits server entry fits room fit = by_test (is_member server)
  where
    by_test : (member : Bool)
        → IsFitReaction (cond member (requested server entry (last_of entry.client (done_of (acknowledged server)))) (ignored server))
    by_test true = requested_fits server entry (last_of entry.client (done_of (acknowledged server))) refl fits room fit
    by_test false = ignored_fits server fits

-- ---- entries

record AreFew (entries : List Entry) : Type 0 where
  all : All IsEntry entries
  few : length entries ≤ 16

missing_fits : (log : List Entry) (first : ℕ) (entries : List Entry) → AreFew entries → AreFew (missing log first entries)
missing_fits log first entries fits = by_test (leb first (length log + 1))
  where
    by_test : (near : Bool) → AreFew (cond near (drop (length log + 1 - first) entries) [])
    by_test true =
        let few = fits.few in
        let short = length-drop (length log + 1 - first) entries in
        record { all = All-drop IsEntry (length log + 1 - first) entries fits.all; few = omega arith }
    by_test false = record { all = All-nil IsEntry; few = omega arith }

passes_fit : (server : Server) (entries : List Entry) → IsFit server → All IsPacket (passes_on server entries)
passes_fit server [] fits = none_fits
passes_fit server (entry ∷ more) fits = window_fits server fits

takes_entries_fits : (server : Server) (from : ServerId) (entries : List Entry) → IsFit server → HasRoom server
    → IsServerId from → AreFew entries
    → IsFitReaction (takes_entries server from entries)
takes_entries_fits server from entries fits room sender few =
    follows_fit (advances_at_tail (appended server entries))
    (λ after. sends after (ack_to after (Some from) ++ passes_on after entries))
    (advances_at_tail_fits (appended server entries) (appended_fits server entries fits room few.all few.few))
    (λ after fit.
    let acks = ack_to after (Some from) in
    let passes = passes_on after entries in
    sends_fit after (acks ++ passes) fit
    (All-append IsPacket acks passes (ack_to_fits after (Some from) fit sender) (passes_fit after entries fit)))

append_fits : (server : Server) (from : ServerId) (first : ℕ) (entries : List Entry) → IsFit server → HasRoom server
    → IsServerId from → IsAppend first entries
    → IsFitReaction (after_append server from first entries)
append_fits server from first entries fits room sender fit = by_test (is_server (prev server) from)
  where
    few : AreFew entries
    few = record { all = fit.entries_fit.each; few = fit.entries_fit.count.most }

    by_test : (taken : Bool)
        → IsFitReaction (cond taken (takes_entries server from (missing server.log first entries)) (ignored server))
    by_test true =
        takes_entries_fits server from (missing server.log first entries) fits room sender
        (missing_fits server.log first entries few)
    by_test false = ignored_fits server fits

-- ---- acknowledgements

acknowledges_fits : (server : Server) (upto : ℕ) → upto ≤ most_logged → IsFit server → IsFitReaction (acknowledges server upto)
acknowledges_fits server upto few fits = by_test (ltb server.done upto)
  where
    by_test : (more : Bool)
        → IsFitReaction (cond more (follows (advances server upto) (λ after. sends after (ack after))) (sends server []))
    by_test true =
        follows_fit (advances server upto) (λ after. sends after (ack after)) (advances_fit server upto few fits)
        (λ after fit. sends_fit after (ack after) fit (ack_fits after fit))
    by_test false = sends_fit server [] fits none_fits

fed_fits : (server : Server) (fed : ℕ) → IsFit server → IsFit (record server { fed = fed })
fed_fits server fed fits =
    record { id = fits.id; view = fits.view; log = fits.log; long = fits.long; done = fits.done; waiting = fits.waiting }

feeds_fits : (server : Server) (upto : ℕ) → IsFit server → IsFitReaction (feeds server upto)
feeds_fits server upto fits =
    sends_fit after _ fit (by_test (ltb server.fed upto && ltb upto (length server.log)))
  where
    after : Server
    after = record server { fed = max server.fed upto }

    fit : IsFit after
    fit = fed_fits server (max server.fed upto) fits

    by_test : (more : Bool) → All IsPacket (cond more (window after) [])
    by_test true = window_fits after fit
    by_test false = none_fits

tells_joined_fits : (server : Server) (from : ServerId) (len : ℕ) → IsFit server → IsServerId from
    → IsFitReaction (tells_joined server from len)
tells_joined_fits server from len fits sender =
    sends_fit server _ fits (by_test (is_server (behind server) from && leb server.need len))
  where
    by_test : (enough : Bool) → All IsPacket (cond enough (joined_packet server from ∷ []) [])
    by_test true = one_fits (joined_packet server from) (joined_packet_fits server from fits sender)
    by_test false = none_fits

hears_fits : (server : Server) (from : ServerId) (done len : ℕ) → IsFit server → IsServerId from
    → IsFitReaction (hears server from done len)
hears_fits server from done len fits sender =
    let long = fits.long in
    let first = acknowledges server (min done (length server.log)) in
    let on : Server → Reaction Server = λ after. feeds after (min len (length after.log)) in
    follows_fit (follows first on) (λ after. tells_joined after from len)
    (follows_fit first on (acknowledges_fits server (min done (length server.log)) (omega arith) fits)
    (λ after fit. feeds_fits after (min len (length after.log)) fit))
    (λ after fit. tells_joined_fits after from len fit sender)

ack_heard_fits : (server : Server) (from : ServerId) (done len : ℕ) → IsFit server → IsServerId from
    → IsFitReaction (after_ack server from done len)
ack_heard_fits server from done len fits sender = by_test (is_server (next server) from)
  where
    by_test : (taken : Bool) → IsFitReaction (cond taken (hears server from done len) (ignored server))
    by_test true = hears_fits server from done len fits sender
    by_test false = ignored_fits server fits

-- ---- turns and views

pub ticks_fit : (server : Server) → IsFit server → IsFitReaction (server_ticks server)
ticks_fit server fits =
    sends_fit server (ack server ++ window server) fits
    (All-append IsPacket (ack server) (window server) (ack_fits server fits) (window_fits server fits))

viewing_fits : (server : Server) (view : View) → IsFit server → IsView view → IsFit (viewing server view)
viewing_fits server view fits view_fits =
    record { id = fits.id; view = view_fits; log = fits.log; long = fits.long; done = fits.done; waiting = fits.waiting }

view_taken_fits : (server : Server) (view : View) → IsFit server → IsView view → IsFitReaction (after_view server view)
view_taken_fits server view fits view_fits = by_test (may_adopt server view)
  where
    by_test : (may : Bool) → IsFitReaction (cond may (adopts server view) (ignored server))
    by_test true =
        follows_fit (advances_at_tail (viewing server view)) server_ticks
        (advances_at_tail_fits (viewing server view) (viewing_fits server view fits view_fits))
        (λ after fit. ticks_fit after fit)
    by_test false = ignored_fits server fits

-- ---- queries

waits_fits : (server : Server) (query : Query) → IsFit server → IsSpokenQuery query → IsFitReaction (waits server query)
waits_fits server query fits fit = by_test (leb most_waiting (length server.waiting))
  where
    by_test : (full : Bool)
        → IsFitReaction (cond full (ignored server) (sends (record server { waiting = server.waiting ++ query ∷ [] }) []))
    by_test true = ignored_fits server fits
    by_test false =
        record {
          after = record {
            id = fits.id;
            view = fits.view;
            log = fits.log;
            long = fits.long;
            done = fits.done;
            waiting = All-push IsSpokenQuery server.waiting query fits.waiting fit;
          };
          sent = none_fits;
        }

ask_fits : (server : Server) (query : Query) → IsFit server → IsSpokenQuery query → IsFitReaction (after_ask server query)
ask_fits server query fits fit = by_view server.view fits.view
  where
    by_test : (view : View) → IsView view → (other : Bool)
        → IsFitReaction (cond other (sends server (refer_packet server view query ∷ [])) (waits server query))
    by_test view view_fits true =
        sends_fit server (refer_packet server view query ∷ []) fits
        (one_fits (refer_packet server view query) (refer_packet_fits server view query fits view_fits fit))
    by_test view view_fits false = waits_fits server query fits fit

    by_view : (view : Option View) → IsSpokenOpen IsView view → IsFitReaction (asked_in server query view)
    by_view None view_fits = ignored_fits server fits
    by_view (Some view) view_fits = by_test view view_fits (not (is_member server) || is_for_tail server query)

pub works_fit : (server : Server) → IsFit server → IsFitReaction (server_works server)
works_fit server fits =
    record {
      after = record {
        id = fits.id;
        view = fits.view;
        log = fits.log;
        long = fits.long;
        done = fits.done;
        waiting = All-nil IsSpokenQuery;
      };
      sent =
          All-map IsPacket (work_packet server) server.waiting
          (All-weaker IsSpokenQuery (λ query. IsPacket (work_packet server query))
          (λ query fit. work_packet_fits server query fits fit) server.waiting fits.waiting);
    }

-- ---- packets

from_client_fits : (server : Server) (client : ClientId) (message : Message) → IsFit server → HasRoom server
    → IsOf (sender_of message) (OfClient client) → IsMessage message
    → IsFitReaction (from_client server client message)
from_client_fits server client (Request seq command) fits room sender fit =
    request_fits server (record { client = client; seq = seq; command = command }) fits room
    (record { client = sender; seq = fit.seq_fits; command = fit.command_fits })
from_client_fits server client (Ask q part pairs) fits room sender fit =
    ask_fits server (record { client = client; q = q; part = part; pairs = pairs }) fits
    (record { client = sender; q = fit.query.q_fits; part = fit.query.part_fits; pairs = fit.pairs_fit })
from_client_fits server client other fits room sender fit = ignored_fits server fits

from_server_fits : (server : Server) (from : ServerId) (message : Message) → IsFit server → HasRoom server
    → IsOf (sender_of message) (OfServer from) → IsMessage message
    → IsFitReaction (from_server server from message)
from_server_fits server from (Append first entries) fits room sender fit =
    append_fits server from first entries fits room sender fit
from_server_fits server from (Ack done len) fits room sender fit = ack_heard_fits server from done len fits sender
from_server_fits server from other fits room sender fit = ignored_fits server fits

from_manager_fits : (server : Server) (message : Message) → IsFit server → IsMessage message
    → IsFitReaction (from_manager server message)
from_manager_fits server (NewView view) fits fit = view_taken_fits server view fits fit
from_manager_fits server other fits fit = ignored_fits server fits

taken_fits : (server : Server) (from : nodes.Node) (message : Message) → IsFit server → HasRoom server
    → IsOf (sender_of message) from → IsMessage message
    → IsFitReaction (taken_from server from message)
taken_fits server Manager message fits room sender fit = from_manager_fits server message fits fit
taken_fits server (OfClient client) message fits room sender fit = from_client_fits server client message fits room sender fit
taken_fits server (OfServer from) message fits room sender fit = from_server_fits server from message fits room sender fit

-- what a server does with a packet that can be spelt
pub takes_fit : (server : Server) (packet : Packet) → IsFit server → HasRoom server → IsPacket packet
    → IsFitReaction (server_takes server packet)
takes_fit server packet fits room fit = taken_fits server packet.from packet.message fits room fit.from fit.message
