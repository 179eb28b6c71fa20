-- A packet that comes again leaves the server's log as it is.
use Rattle.std.proofs.Common.{leb, cond, max, min, List, [], ◌∷◌, ◌++◌, length, drop, ◌≡◌, ◌≤◌, ◌+◌, ◌-◌, ◌⊎◌, ℕ, Bool, true, false, not, eqb, ltb, ◌&&◌, ◌||◌, refl, sym, ap, ◌∙◌, subst, arith, inl, inr}
use Rattle.std.specs.Prelude.{Option, None, Some}
use Rattle.std.proofs.lemmas.Bool.{le-leb, leb-true, ltb-true, cond-true, cond-false, eq-eqb}
use Rattle.std.proofs.lemmas.List.{append-nil, length-append, length-drop, drop_all}
use Rattle.kr_order.specs.declared.ids.ClientId.{ClientId}
use Rattle.kr_order.specs.declared.ids.ServerId.{ServerId}
use Rattle.kr_order.specs.declared.history.Command.{Command}
use Rattle.kr_order.specs.declared.history.Entry.{Entry}
use Rattle.kr_order.specs.declared.history.DoneEntry.{DoneEntry}
use Rattle.kr_order.specs.declared.message.Node as nodes
use Rattle.kr_order.specs.declared.message.Node.TheVariants.{Manager, Client, Server as FromServer}
use Rattle.kr_order.specs.declared.message.Message.{Message}
use Rattle.kr_order.specs.declared.message.Message.TheVariants.{Request, Append, Ack, NewView, Ask}
use Rattle.kr_order.specs.declared.answer.Query.{Query}
use Rattle.kr_order.specs.History.{highest_seq}
use Rattle.kr_order.specs.declared.view.View.{View}
use Rattle.kr_order.specs.View.{prev_of}
use Rattle.kr_order.specs.Done.{done_of, last_of}
use Rattle.kr_protocol.specs.Reaction.{Reaction, ignored}
use Rattle.kr_protocol.specs.Server.{Server, sends, follows, appended, advances, advances_at_tail, enters, may_enter, enters_new, requested, after_request, missing, after_append, acknowledges, after_ack, most_waiting, is_for_tail, refer_packet, waits, asked_in, after_ask, viewed, is_member, is_at_tail, is_first, is_server, acknowledged, ack, prev, next, window, reply_packet, from_client, from_server, from_manager, taken_from, server_ticks, viewing, may_adopt, adopts, after_view, hears}
use Rattle.kr_protocol.specs.Laws.{RepeatsChangeNothing}

-- a command in the log is none of greater number
pub highest_seq-append : (client : ClientId) (xs ys : List Entry) → highest_seq client (xs ++ ys) ≡ max (highest_seq client xs) (highest_seq client ys)
highest_seq-append client [] ys = omega arith
highest_seq-append client (x ∷ xs) ys =
    let more = highest_seq-append client xs ys in
    let own = cond (eqb x.client.0 client.0) x.seq 0 in
    ap (λ n. max own n) more ∙ omega arith

entry_within : (log : List Entry) (entry : Entry) → entry.seq ≤ highest_seq entry.client (log ++ entry ∷ [])
entry_within log entry =
    let own : cond (eqb entry.client.0 entry.client.0) entry.seq 0 ≡ entry.seq = cond-true (eqb entry.client.0 entry.client.0) entry.seq 0 (eq-eqb entry.client.0 entry.client.0 refl) in
    omega (arith, highest_seq-append entry.client log (entry ∷ []), own)

-- the log that the first member has once a command has entered it
pub entered_log : (server : Server) (entry : Entry) → (enters server entry).after.log ≡ server.log ++ entry ∷ []
entered_log server entry = by_test (is_at_tail (appended server (entry ∷ [])))
  where
    by_test : (test : Bool) → (cond test (advances (appended server (entry ∷ [])) (length (server.log ++ entry ∷ []))) (sends (appended server (entry ∷ [])) (window (appended server (entry ∷ []))))).after.log ≡ server.log ++ entry ∷ []
    by_test true = refl
    by_test false = refl

-- what a request does to the server: nothing, or the log has its command afterwards
abbrev Adds : Server → Entry → Reaction Server → Type 0
Adds server entry reaction = (reaction.after ≡ server) ⊎ (entry.seq ≤ highest_seq entry.client reaction.after.log)

enters_new_adds : (server : Server) (entry : Entry) (test : Bool) → Adds server entry (cond test (enters server entry) (ignored server))
enters_new_adds server entry true = inr (subst (λ log. entry.seq ≤ highest_seq entry.client log) (sym (entered_log server entry)) (entry_within server.log entry))
enters_new_adds server entry false = inl refl

requested_adds : (server : Server) (entry : Entry) (last : Option DoneEntry) → Adds server entry (requested server entry last)
requested_adds server entry None = enters_new_adds server entry (may_enter server entry)
requested_adds server entry (Some last) = by_test (eqb last.entry.seq entry.seq)
  where
    by_test : (test : Bool) → Adds server entry (cond test (sends server (reply_packet server.id last ∷ [])) (enters_new server entry))
    by_test true = inl refl
    by_test false = enters_new_adds server entry (may_enter server entry)

-- a command that the log has leaves it as it is
not_entered : (server : Server) (entry : Entry) (newer : Bool) → ltb (highest_seq entry.client server.log) entry.seq ≡ newer → entry.seq ≤ highest_seq entry.client server.log → (enters_new server entry).after.log ≡ server.log
not_entered server entry true is known = absurd (omega (arith, ltb-true (highest_seq entry.client server.log) entry.seq is))
not_entered server entry false is known = by_test (is_first server)
  where
    by_test : (first : Bool) → (cond (first && ltb (highest_seq entry.client server.log) entry.seq) (enters server entry) (ignored server)).after.log ≡ server.log
    by_test true = rw is refl
    by_test false = refl

known_again : (server : Server) (entry : Entry) (last : Option DoneEntry) → entry.seq ≤ highest_seq entry.client server.log → (requested server entry last).after.log ≡ server.log
known_again server entry None known = not_entered server entry (ltb (highest_seq entry.client server.log) entry.seq) refl known
known_again server entry (Some last) known = by_test (eqb last.entry.seq entry.seq)
  where
    by_test : (test : Bool) → (cond test (sends server (reply_packet server.id last ∷ [])) (enters_new server entry)).after.log ≡ server.log
    by_test true = refl
    by_test false = not_entered server entry (ltb (highest_seq entry.client server.log) entry.seq) refl known

abbrev asks_for : ClientId → ℕ → Command → Entry
asks_for client seq command = record { client = client; seq = seq; command = command }

request_known : (server : Server) (client : ClientId) (seq : ℕ) (command : Command) → seq ≤ highest_seq client server.log → (after_request server client seq command).after.log ≡ server.log
request_known server client seq command known = by_test (is_member server)
  where
    last : Option DoneEntry
    last = last_of client (done_of (acknowledged server))

    by_test : (test : Bool) → (cond test (requested server (asks_for client seq command) last) (ignored server)).after.log ≡ server.log
    by_test true = known_again server (asks_for client seq command) last known
    by_test false = refl

request_adds : (server : Server) (client : ClientId) (seq : ℕ) (command : Command) → Adds server (asks_for client seq command) (after_request server client seq command)
request_adds server client seq command = by_test (is_member server)
  where
    last : Option DoneEntry
    last = last_of client (done_of (acknowledged server))

    by_test : (test : Bool) → Adds server (asks_for client seq command) (cond test (requested server (asks_for client seq command) last) (ignored server))
    by_test true = requested_adds server (asks_for client seq command) last
    by_test false = inl refl

request_again : (server : Server) (client : ClientId) (seq : ℕ) (command : Command) → (after_request (after_request server client seq command).after client seq command).after.log ≡ (after_request server client seq command).after.log
request_again server client seq command =
    elim (request_adds server client seq command) [
      | inl same ↦ ap (λ (s : Server). (after_request s client seq command).after.log) same
      | inr known ↦ request_known (after_request server client seq command).after client seq command known
    ]

-- entries that the log lacks are there once they have been appended
pub missing_none : (log : List Entry) (first : ℕ) (entries : List Entry) → missing (log ++ missing log first entries) first entries ≡ []
missing_none log first entries = by_test (leb first (length log + 1)) refl
  where
    by_test : (test : Bool) → leb first (length log + 1) ≡ test → missing (log ++ missing log first entries) first entries ≡ []
    by_test true is =
        let le = leb-true first (length log + 1) is in
        let more : missing log first entries ≡ drop (length log + 1 - first) entries = cond-true (leb first (length log + 1)) (drop (length log + 1 - first) entries) [] is in
        let long : length (log ++ missing log first entries) ≡ length log + (length entries - (length log + 1 - first)) = ap (λ es. length (log ++ es)) more ∙ length-append log (drop (length log + 1 - first) entries) ∙ ap (λ n. length log + n) (length-drop (length log + 1 - first) entries) in
        let now = length (log ++ missing log first entries) in
        cond-true (leb first (now + 1)) (drop (now + 1 - first) entries) [] (le-leb first (now + 1) (omega arith)) ∙ drop_all (now + 1 - first) entries (omega arith)
    by_test false is =
        let none : missing log first entries ≡ [] = cond-false (leb first (length log + 1)) (drop (length log + 1 - first) entries) [] is in
        ap (λ es. missing (log ++ es) first entries) none ∙ ap (λ l. missing l first entries) (append-nil log) ∙ none

-- a server that goes on keeps its id and its view, and has this log
pub record GoesOn (server : Server) (log : List Entry) (reaction : Reaction Server) : Type 0 where
  pub id : reaction.after.id ≡ server.id
  pub view : reaction.after.view ≡ server.view
  pub log_is : reaction.after.log ≡ log

tail_goes_on : (server : Server) → GoesOn server server.log (advances_at_tail server)
tail_goes_on server = by_test (is_at_tail server)
  where
    by_test : (test : Bool) → GoesOn server server.log (cond test (advances server (length server.log)) (sends server []))
    by_test true = record { id = refl; view = refl; log_is = refl }
    by_test false = record { id = refl; view = refl; log_is = refl }

pub append_goes_on : (server : Server) (from : ServerId) (first : ℕ) (entries : List Entry) (taken : Bool) → is_server (prev server) from ≡ taken → GoesOn server (cond taken (server.log ++ missing server.log first entries) server.log) (after_append server from first entries)
append_goes_on server from first entries true is =
    let on = tail_goes_on (appended server (missing server.log first entries)) in
    rw is (record { id = on.id; view = on.view; log_is = on.log_is })
append_goes_on server from first entries false is = rw is (record { id = refl; view = refl; log_is = refl })

append_again : (server : Server) (from : ServerId) (first : ℕ) (entries : List Entry) (taken : Bool) → is_server (prev server) from ≡ taken → (after_append (after_append server from first entries).after from first entries).after.log ≡ (after_append server from first entries).after.log
append_again server from first entries true is =
    let on = append_goes_on server from first entries true is in
    let after = (after_append server from first entries).after in
    let still : is_server (prev after) from ≡ true = ap (λ o. is_server o from) (ap (λ v. viewed None prev_of v after.id) on.view ∙ ap (λ i. viewed None prev_of server.view i) on.id) ∙ is in
    let again = append_goes_on after from first entries true still in
    again.log_is ∙ ap (λ es. after.log ++ es) (ap (λ l. missing l first entries) on.log_is ∙ missing_none server.log first entries) ∙ append-nil after.log
append_again server from first entries false is = rw is (rw is refl)

-- an acknowledgement adds nothing to the log
acknowledges_keeps : (server : Server) (upto : ℕ) → (acknowledges server upto).after.log ≡ server.log
acknowledges_keeps server upto = by_test (ltb server.done upto)
  where
    by_test : (test : Bool) → (cond test (follows (advances server upto) (λ after. sends after (ack after))) (sends server [])).after.log ≡ server.log
    by_test true = refl
    by_test false = refl

ack_keeps : (server : Server) (from : ServerId) (done len : ℕ) → (after_ack server from done len).after.log ≡ server.log
ack_keeps server from done len = by_test (is_server (next server) from)
  where
    by_test : (test : Bool) → (cond test (hears server from done len) (ignored server)).after.log ≡ server.log
    by_test true = acknowledges_keeps server (min done (length server.log))
    by_test false = refl

-- nor does a query
asked_keeps : (server : Server) (query : Query) (view : Option View) → (asked_in server query view).after.log ≡ server.log
asked_keeps server query None = refl
asked_keeps server query (Some view) = by_test (not (is_member server) || is_for_tail server query)
  where
    wait : (full : Bool) → (cond full (ignored server) (sends (record server { waiting = server.waiting ++ query ∷ [] }) [])).after.log ≡ server.log
    wait true = refl
    wait false = refl

    by_test : (other : Bool) → (cond other (sends server (refer_packet server view query ∷ [])) (waits server query)).after.log ≡ server.log
    by_test true = refl
    by_test false = wait (leb most_waiting (length server.waiting))

ask_keeps : (server : Server) (query : Query) → (after_ask server query).after.log ≡ server.log
ask_keeps server query = asked_keeps server query server.view

client_again : (server : Server) (client : ClientId) (message : Message) → (from_client (from_client server client message).after client message).after.log ≡ (from_client server client message).after.log
client_again server client (Request seq command) = request_again server client seq command
client_again server client (Ask q part pairs) =
    let query : Query = record { client = client; q = q; part = part; pairs = pairs } in ask_keeps (after_ask server query).after query
client_again server client other = refl

server_again : (server : Server) (from : ServerId) (message : Message) → (from_server (from_server server from message).after from message).after.log ≡ (from_server server from message).after.log
server_again server from (Append first entries) = append_again server from first entries (is_server (prev server) from) refl
server_again server from (Ack done len) = ack_keeps (after_ack server from done len).after from done len
server_again server from other = refl

-- another view leaves the log as it is
view_keeps : (server : Server) (view : View) → (after_view server view).after.log ≡ server.log
view_keeps server view = by_test (may_adopt server view)
  where
    by_tail : (tail : Bool) → (follows (cond tail (advances (viewing server view) (length (viewing server view).log)) (sends (viewing server view) [])) server_ticks).after.log ≡ server.log
    by_tail true = refl
    by_tail false = refl

    by_test : (adopted : Bool) → (cond adopted (adopts server view) (ignored server)).after.log ≡ server.log
    by_test true = by_tail (is_at_tail (viewing server view))
    by_test false = refl

manager_again : (server : Server) (message : Message) → (from_manager (from_manager server message).after message).after.log ≡ (from_manager server message).after.log
manager_again server (NewView view) = view_keeps (after_view server view).after view
manager_again server other = refl

message_again : (server : Server) (from : nodes.Node) (message : Message) → (taken_from (taken_from server from message).after from message).after.log ≡ (taken_from server from message).after.log
message_again server Manager message = manager_again server message
message_again server (Client client) message = client_again server client message
message_again server (FromServer from) message = server_again server from message

pub again : RepeatsChangeNothing
again server packet = message_again server packet.from packet.message
