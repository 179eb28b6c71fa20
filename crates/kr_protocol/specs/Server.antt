-- One server of a chain: what it does with each message, and when it works.
use Rattle.std.specs.Prelude.{length, map, take, drop, min, max, nat_le, ℕ, ◌+◌, ◌-◌, List, []}
use Rattle.std.specs.Prelude.{◌∷◌, ◌++◌, ◌==◌, nat_lt, find, is_some, is_none, Bool, true, false}
use Rattle.std.specs.Prelude.{not, ◌&&◌, ◌||◌, if◌then◌else◌, Option, None, Some}
use Rattle.kr_order.specs.declared.ids.ClientId.{ClientId}
use Rattle.kr_order.specs.declared.ids.ServerId.{ServerId}
use Rattle.kr_order.specs.declared.ids.EventId.{EventId}
use Rattle.kr_order.specs.declared.answer.Answer.{Answer}
use Rattle.kr_order.specs.declared.answer.Query.{Query}
use Rattle.kr_order.specs.Answer.{answers_after, partial}
use Rattle.kr_order.specs.declared.history.Command.{Command}
use Rattle.kr_order.specs.declared.history.Entry.{Entry}
use Rattle.kr_order.specs.declared.history.DoneEntry.{DoneEntry}
use Rattle.kr_order.specs.declared.message.Node as nodes
use Rattle.kr_order.specs.declared.message.Node.TheVariants.{Manager, Client, Server as FromServer}
use Rattle.kr_order.specs.declared.message.Message.{Message}
use Rattle.kr_order.specs.declared.message.Message.TheVariants.{Request, Append, Ack, NewView, Replied, Ask, Answered, Refer, Joined}
use Rattle.kr_order.specs.declared.message.Packet.{Packet}
use Rattle.kr_order.specs.declared.view.View.{View}
use Rattle.kr_order.specs.History.{highest_seq}
use Rattle.kr_order.specs.Done.{done_of, last_of}
use Rattle.kr_order.specs.View.{in_chain, last_member, next_of, prev_of, is_tail, is_head, names}
use Rattle.kr_protocol.specs.Reaction.{Reaction, ignored}

-- a server: the commands in its log, how many of them are acknowledged, the view that it has adopted, how many
-- entries the next server is known to have, how many a joiner behind it has to have before it may become a member, and
-- the queries that wait
pub record Server : Type 0 where
  pub id : ServerId
  pub log : List Entry
  pub done : ℕ
  pub view : Option View
  pub fed : ℕ
  pub need : ℕ
  pub waiting : List Query

-- a server of the first view, with nothing in its log
abbrev pub founder : View → ServerId → Server
founder view id = record { id = id; log = []; done = 0; view = Some view; fed = 0; need = 0; waiting = [] }

-- a server that is to join: it has nothing in its log, and no view
abbrev pub newcomer : ServerId → Server
newcomer id = record { id = id; log = []; done = 0; view = None; fed = 0; need = 0; waiting = [] }

-- the acknowledged prefix of its log: all that it has applied, and answers from
abbrev pub acknowledged : Server → List Entry
acknowledged server = take server.done server.log

-- what the view says of the server, where it has one
abbrev pub viewed : {X : Type 0} → X → (View → ServerId → X) → Option View → ServerId → X
viewed none says None id = none
viewed none says (Some view) id = says view id

-- it is a member of the chain
abbrev pub is_member : Server → Bool
is_member server = viewed false in_chain server.view server.id

-- it is the first member
abbrev pub is_first : Server → Bool
is_first server = viewed false is_head server.view server.id

-- it is the last member, and none is being added behind it
abbrev pub is_at_tail : Server → Bool
is_at_tail server = viewed false is_tail server.view server.id

-- who stands before it in the chain
abbrev pub prev : Server → Option ServerId
prev server = viewed None prev_of server.view server.id

-- who follows it
abbrev pub next : Server → Option ServerId
next server = viewed None next_of server.view server.id

-- this is that server
abbrev pub is_server : Option ServerId → ServerId → Bool
is_server None id = false
is_server (Some server) id = server.0 == id.0

-- the server afterwards, and what it sends
abbrev pub sends : Server → List Packet → Reaction Server
sends server sent = record { after = server; sent = sent }

-- one reaction, and then another of the server that the first has left
abbrev pub follows : Reaction Server → (Server → Reaction Server) → Reaction Server
follows first goes_on =
    let second = goes_on first.after in sends second.after (first.sent ++ second.sent)

-- the joiner behind a server, where this one is the last member of the view
abbrev pub joiner_behind : View → ServerId → Option ServerId
joiner_behind view id = if is_server (last_member view) id then view.joiner else None

-- the joiner that the server feeds
abbrev pub behind : Server → Option ServerId
behind server = viewed None joiner_behind server.view server.id

-- so many entries are sent at once at the most
abbrev pub most_entries : ℕ
most_entries = 16

-- the entries that the next server is not known to have, up to so many
abbrev pub next_entries : Server → List Entry
next_entries server = take most_entries (drop server.fed server.log)

-- what the server of this id passes on of a log to a next one, where there is one, that is known to have so many of
-- its entries: those behind them, up to so many, and nothing where there are none
abbrev pub window_of : ServerId → Option ServerId → ℕ → List Entry → List Packet
window_of id None fed log = []
window_of id (Some to) fed log =
    if nat_lt fed (length log)
    then record { from = FromServer id; to = FromServer to; message = Append (fed + 1) (take most_entries (drop fed log)) } ∷ []
    else []

abbrev pub window_to : Server → Option ServerId → List Packet
window_to server to = window_of server.id to server.fed server.log

-- the window: what is passed on to the next server, where there is one that may lack entries
abbrev pub window : Server → List Packet
window server = window_to server (next server)

-- what the server of this id tells one before it, where there is one: how many entries are acknowledged to it, and how
-- many its log has
abbrev pub ack_of : ServerId → Option ServerId → ℕ → ℕ → List Packet
ack_of id None done len = []
ack_of id (Some to) done len =
    record { from = FromServer id; to = FromServer to; message = Ack done len } ∷ []

abbrev pub ack_to : Server → Option ServerId → List Packet
ack_to server to = ack_of server.id to server.done (length server.log)

-- the acknowledgement for the server before it
abbrev pub ack : Server → List Packet
ack server = ack_to server (prev server)

-- the reply of an applied entry, for its client
abbrev pub reply_packet : ServerId → DoneEntry → Packet
reply_packet id done =
    record {
      from = FromServer id;
      to = Client done.entry.client;
      message = Replied done.entry.seq (record { place = done.place; reply = done.reply });
    }

-- the client has an entry among these
abbrev pub is_among : ClientId → List DoneEntry → Bool
is_among client dones = is_some (find (λ done. done.entry.client.0 == client.0) dones)

-- the last of each client's among these, places rising
abbrev pub lasts : List DoneEntry → List DoneEntry
lasts [] = []
lasts (done ∷ more) =
    if is_among done.entry.client more then lasts more else done ∷ lasts more

-- the entries that are applied when so many are acknowledged, each with its place and reply
abbrev pub newly_applied : Server → ℕ → List DoneEntry
newly_applied server upto = drop server.done (done_of (take upto server.log))

-- so many entries are acknowledged: those that were not before are applied, and the tail replies to their clients
abbrev pub advances : Server → ℕ → Reaction Server
advances server upto =
    sends (record server { done = upto })
    (if is_at_tail server then map (reply_packet server.id) (lasts (newly_applied server upto)) else [])

-- entries go to the end of the log
abbrev pub appended : Server → List Entry → Server
appended server entries = record server { log = server.log ++ entries }

-- what the tail has in its log is acknowledged by that
abbrev pub advances_at_tail : Server → Reaction Server
advances_at_tail server = if is_at_tail server then advances server (length server.log) else sends server []

-- what stands in the log is acknowledged by the tail, and passed on by another
abbrev pub commits_or_passes_on : Server → Reaction Server
commits_or_passes_on server = if is_at_tail server then advances server (length server.log) else sends server (window server)

-- a new entry goes to the end of the first member's log, and on to the next server, if there is one
abbrev pub enters : Server → Entry → Reaction Server
enters server entry = commits_or_passes_on (appended server (entry ∷ []))

-- the first member takes a command whose number is greater than those of all the client's commands in its log
abbrev pub may_enter : Server → Entry → Bool
may_enter server entry = is_first server && nat_lt (highest_seq entry.client server.log) entry.seq

abbrev pub enters_new : Server → Entry → Reaction Server
enters_new server entry = if may_enter server entry then enters server entry else ignored server

-- a command that is the client's last applied one is replied again
abbrev pub requested : Server → Entry → Option DoneEntry → Reaction Server
requested server entry None = enters_new server entry
requested server entry (Some last) =
    if last.entry.seq == entry.seq then sends server (reply_packet server.id last ∷ []) else enters_new server entry

-- a member of the chain takes a client's request
abbrev pub after_request : Server → ClientId → ℕ → Command → Reaction Server
after_request server client seq command =
    if is_member server
    then requested server (record { client = client; seq = seq; command = command }) (last_of client (done_of (acknowledged server)))
    else ignored server

-- those of the entries, the first of which stands at the place, that the log lacks; none where there is a gap
abbrev pub missing : List Entry → ℕ → List Entry → List Entry
missing log first entries =
    if nat_le first (length log + 1) then drop (length log + 1 - first) entries else []

-- what is passed on once these entries have been appended
abbrev pub passes_on : Server → List Entry → List Packet
passes_on server [] = []
passes_on server (entry ∷ more) = window server

-- the entries go to the end of the log, are acknowledged where the server is the tail, and are passed on where not
abbrev pub takes_entries : Server → ServerId → List Entry → Reaction Server
takes_entries server from entries =
    follows (advances_at_tail (appended server entries)) (λ after. sends after (ack_to after (Some from) ++ passes_on after entries))

-- entries count where the server before it sent them
abbrev pub after_append : Server → ServerId → ℕ → List Entry → Reaction Server
after_append server from first entries =
    if is_server (prev server) from then takes_entries server from (missing server.log first entries) else ignored server

-- what is acknowledged to the next server is acknowledged to this one, and the server before it learns so
abbrev pub acknowledges : Server → ℕ → Reaction Server
acknowledges server upto =
    if nat_lt server.done upto then follows (advances server upto) (λ after. sends after (ack after)) else sends server []

-- the next server is known to have so many entries, and is sent more of them where this is news
abbrev pub feeds : Server → ℕ → Reaction Server
feeds server upto =
    let after = record server { fed = max server.fed upto } in
    sends after (if nat_lt server.fed upto && nat_lt upto (length server.log) then window after else [])

-- the manager is told that the joiner has caught up
abbrev pub joined_packet : Server → ServerId → Packet
joined_packet server joiner = record { from = FromServer server.id; to = Manager; message = Joined joiner }

-- a joiner that has what it has to have may become a member
abbrev pub tells_joined : Server → ServerId → ℕ → Reaction Server
tells_joined server from len =
    sends server (if is_server (behind server) from && nat_le server.need len then joined_packet server from ∷ [] else [])

-- so many entries are acknowledged to the next server, and it has so many: of neither more than this log has
abbrev pub acknowledges_and_feeds : Server → ℕ → ℕ → Reaction Server
acknowledges_and_feeds server done len =
    follows (acknowledges server (min done (length server.log))) (λ after. feeds after (min len (length after.log)))

-- what the next server says of itself: what is acknowledged to it, and what it has
abbrev pub hears : Server → ServerId → ℕ → ℕ → Reaction Server
hears server from done len = follows (acknowledges_and_feeds server done len) (λ after. tells_joined after from len)

-- an acknowledgement counts where the next server sent it
abbrev pub after_ack : Server → ServerId → ℕ → ℕ → Reaction Server
after_ack server from done len = if is_server (next server) from then hears server from done len else ignored server

-- a server whose time has come tells the server before it what it has, and the one behind it what that may lack
abbrev pub server_ticks : Server → Reaction Server
server_ticks server = sends server (ack server ++ window server)

-- the number of a server's view, 0 where it has none
abbrev pub view_number : Option View → ℕ
view_number None = 0
view_number (Some view) = view.number

-- these are the same server, or none both
abbrev pub are_same : Option ServerId → Option ServerId → Bool
are_same None None = true
are_same None (Some other) = false
are_same (Some one) None = false
are_same (Some one) (Some other) = one.0 == other.0

-- how many entries a joiner has to have, by the view that the server has then: what it had when the server first saw
-- that it joins
abbrev pub need_then : Server → Server → ℕ
need_then server after =
    if is_none (behind after) || are_same (behind server) (behind after) then server.need else length server.log

-- the server with another view: where another follows it by that, this one is not known to have any entry
abbrev pub viewing : Server → View → Server
viewing server view =
    let after = record server { view = Some view } in
    record after { fed = if are_same (next server) (next after) then server.fed else 0; need = need_then server after }

-- a view counts where it is newer than the server's own and names the server
abbrev pub may_adopt : Server → View → Bool
may_adopt server view = nat_lt (view_number server.view) view.number && names view server.id

-- the server adopts the view: where it is the tail by that, what stands in its log is acknowledged; who stands before
-- it learns what it has, and who follows it is sent what that may lack
abbrev pub adopts : Server → View → Reaction Server
adopts server view = follows (advances_at_tail (viewing server view)) server_ticks

abbrev pub after_view : Server → View → Reaction Server
after_view server view = if may_adopt server view then adopts server view else ignored server

-- so many queries wait at the most; a further one is ignored
abbrev pub most_waiting : ℕ
most_waiting = 64

-- only the tail answers the pairs of a query that are asked again, which are its second part
abbrev pub is_for_tail_alone : Bool → ℕ → Bool
is_for_tail_alone tail part = part == 2 && not tail

abbrev pub is_for_tail : Server → Query → Bool
is_for_tail server query = is_for_tail_alone (is_at_tail server) query.part

-- a query's client is told which view the server of this id has adopted, and to ask another
abbrev pub referred : ServerId → View → Query → Packet
referred id view query =
    record { from = FromServer id; to = Client query.client; message = Refer query.q query.part view }

abbrev pub refer_packet : Server → View → Query → Packet
refer_packet server view query = referred server.id view query

-- the query joins the end of those that wait
abbrev pub waits : Server → Query → Reaction Server
waits server query =
    if nat_le most_waiting (length server.waiting) then ignored server
    else sends (record server { waiting = server.waiting ++ query ∷ [] }) []

-- a server that is no member of the chain, and one that is not the tail where only the tail answers, refers the client
-- to its view
abbrev pub asked_in : Server → Query → Option View → Reaction Server
asked_in server query None = ignored server
asked_in server query (Some view) =
    if not (is_member server) || is_for_tail server query then sends server (refer_packet server view query ∷ []) else waits server query

-- a client asks; a server without a view takes no notice
abbrev pub after_ask : Server → Query → Reaction Server
after_ask server query = asked_in server query server.view

-- clients send requests and queries
abbrev pub from_client : Server → ClientId → Message → Reaction Server
from_client server client (Request seq command) = after_request server client seq command
from_client server client (Ask q part pairs) =
    after_ask server (record { client = client; q = q; part = part; pairs = pairs })
from_client server client other = ignored server

-- servers send entries and acknowledgements
abbrev pub from_server : Server → ServerId → Message → Reaction Server
from_server server from (Append first entries) = after_append server from first entries
from_server server from (Ack done len) = after_ack server from done len
from_server server from other = ignored server

-- the manager sends views
abbrev pub from_manager : Server → Message → Reaction Server
from_manager server (NewView view) = after_view server view
from_manager server other = ignored server

-- who sent the message, and what it says
abbrev pub taken_from : Server → nodes.Node → Message → Reaction Server
taken_from server Manager message = from_manager server message
taken_from server (Client client) message = from_client server client message
taken_from server (FromServer from) message = from_server server from message

-- what the server does with a packet that is addressed to it
abbrev pub server_takes : Server → Packet → Reaction Server
server_takes server packet = taken_from server packet.from packet.message

-- the tail tells answers as they are; another server may lack entries, and tells only what stays so
abbrev pub told_by : Bool → List Answer → List Answer
told_by tail answers = if tail then answers else map partial answers

-- the answers to a query by the server of this id, which is the tail or not, after so many entries, which are these
abbrev pub answered : ServerId → Bool → ℕ → List Entry → Query → Packet
answered id tail entry history query =
    record {
      from = FromServer id;
      to = Client query.client;
      message = Answered query.q query.part (record { entry = entry; answers = told_by tail (answers_after history query.pairs) });
    }

abbrev pub answer_packet : Server → Query → Packet
answer_packet server query = answered server.id (is_at_tail server) server.done (acknowledged server) query

-- what a query that waits is told: which view the server has adopted, where only the tail answers it; else the answers
abbrev pub worked_off : ServerId → Option View → Bool → ℕ → List Entry → Query → Packet
worked_off id None tail entry history query = answered id tail entry history query
worked_off id (Some view) tail entry history query =
    if is_for_tail_alone tail query.part then referred id view query else answered id tail entry history query

abbrev pub worked_in : Server → Query → Option View → Packet
worked_in server query view = worked_off server.id view (is_at_tail server) server.done (acknowledged server) query

abbrev pub work_packet : Server → Query → Packet
work_packet server query = worked_in server query server.view

-- the server answers every waiting query, the oldest first, from its acknowledged prefix
abbrev pub server_works : Server → Reaction Server
server_works server = sends (record server { waiting = [] }) (map (work_packet server) server.waiting)
