-- One client: it has one open call at a time, and is told its reply, or the answers to its pairs.
use Rattle.std.specs.Prelude.{Bool, true, false, not, ◌&&◌, ◌||◌, is_some, ℕ, ◌+◌, List, []}
use Rattle.std.specs.Prelude.{◌∷◌, ◌==◌, nat_lt, max, if◌then◌else◌, Option, None, Some}
use Rattle.kr_order.specs.declared.ids.ClientId.{ClientId}
use Rattle.kr_order.specs.declared.ids.ServerId.{ServerId}
use Rattle.kr_order.specs.declared.history.Command.{Command}
use Rattle.kr_order.specs.declared.history.Placed.{Placed}
use Rattle.kr_order.specs.declared.history.ToldReply.{ToldReply}
use Rattle.kr_order.specs.declared.ids.EventId.{EventId}
use Rattle.kr_order.specs.declared.answer.Answer.{Answer}
use Rattle.kr_order.specs.declared.answer.Answer.TheVariants as answers
use Rattle.kr_order.specs.declared.answer.Teller.{Teller}
use Rattle.kr_order.specs.declared.answer.Teller.TheVariants as teller
use Rattle.kr_order.specs.declared.answer.Told.{Told}
use Rattle.kr_order.specs.declared.answer.ToldPart.{ToldPart}
use Rattle.kr_order.specs.declared.message.Node as nodes
use Rattle.kr_order.specs.declared.message.Node.TheVariants.{Manager, Client as ToClient, Server}
use Rattle.kr_order.specs.declared.message.Message.{Message}
use Rattle.kr_order.specs.declared.message.Message.TheVariants.{Request, Replied, Ask, Answered, Refer}
use Rattle.kr_order.specs.declared.message.Packet.{Packet}
use Rattle.kr_order.specs.declared.view.View.{View}
use Rattle.kr_order.specs.View.{last_member}
use Rattle.kr_protocol.specs.Reaction.{Reaction}
use Rattle.kr_protocol.specs.Cache.{CacheItem, CacheAnswer, is_lasting, looks_up, remembers}

-- a client: how many commands it has begun, its open command, which is the last of them, how many queries it has
-- begun, which part of the last of them was asked last, 1 or 2, and, where the query is open, the pairs of it that
-- remain; the greatest place or entry that it was told, the view of the chain that it knows, and what it remembers of
-- pairs. At most one call is open, a command or a query.
pub record Client : Type 0 where
  pub id : ClientId
  pub seq : ℕ
  pub call : Option Command
  pub q : ℕ
  pub part : ℕ
  pub asking : Option (List (EventId × EventId))
  pub seen : ℕ
  pub known : View
  pub cache : List CacheItem

-- a client remembers so many pairs at the most
abbrev pub most_remembered : ℕ
most_remembered = 64

-- a client that has begun nothing, and knows this view
abbrev pub new_client : View → ClientId → Client
new_client view id =
    record { id = id; seq = 0; call = None; q = 0; part = 1; asking = None; seen = 0; known = view; cache = [] }

-- whether a call is open
abbrev pub is_busy : Client → Bool
is_busy client = is_some client.call || is_some client.asking

-- the server, or 0, which no server has, where there is none
abbrev pub server_or_none : Option ServerId → ServerId
server_or_none None = record { 0 = 0 }
server_or_none (Some server) = server

-- the first of these servers
abbrev pub first_of : List ServerId → ServerId
first_of [] = server_or_none None
first_of (server ∷ more) = server

-- commands go to the first server of the view that the client knows
abbrev pub head : Client → ServerId
head client = first_of client.known.chain

-- and what another server was unsure of to the last
abbrev pub last : Client → ServerId
last client = server_or_none (last_member client.known)

-- a client's packet to a server
abbrev pub says : Client → ServerId → Message → Packet
says client server message = record { from = ToClient client.id; to = Server server; message = message }

-- the client opens a command and sends its request
abbrev pub begins : Client → Command → Reaction Client
begins client command =
    record {
      after = record client { seq = client.seq + 1; call = Some command };
      sent = says client (head client) (Request (client.seq + 1) command) ∷ [];
    }

-- the open query's remaining pairs are asked once more
abbrev pub asked_again : Client → ServerId → Option (List (EventId × EventId)) → List Packet
asked_again client server None = []
asked_again client server (Some pairs) = says client server (Ask client.q client.part pairs) ∷ []

-- the open command is requested once more, or the open query
abbrev pub tried_again : Client → ServerId → Option Command → List Packet
tried_again client server None = asked_again client server client.asking
tried_again client server (Some command) = says client server (Request client.seq command) ∷ []

-- the client tries its open call again at the server, with the same number; it stays as it is
abbrev pub retries : Client → ServerId → List Packet
retries client server = tried_again client server client.call

-- what a client does with a message, or with a query: the client afterwards, the reply or the parts that it is told,
-- and the packets that it sends
pub record Hearing : Type 0 where
  pub after : Client
  pub told : Option ToldReply
  pub parts : List ToldPart
  pub sent : List Packet

abbrev pub unheard : Client → Hearing
unheard client = record { after = client; told = None; parts = []; sent = [] }

-- pairs looked up one after the other: what is told of those that are found, the others, and the cache then
pub record Looked : Type 0 where
  pub parts : List ToldPart
  pub left : List (EventId × EventId)
  pub cache : List CacheItem

-- what the cache says of a pair of the query
abbrev pub cached_part : ℕ → EventId × EventId → CacheAnswer → ToldPart
cached_part q pair told =
    record { q = q; a = pair.0; b = pair.1; answer = told.answer; entry = told.entry; by = teller.Cache }

-- a pair that was found or not, in front of the others
abbrev pub looked_first : ℕ → EventId × EventId → Option CacheAnswer → Looked → Looked
looked_first q pair None rest = record rest { left = pair ∷ rest.left }
looked_first q pair (Some told) rest = record rest { parts = cached_part q pair told ∷ rest.parts }

-- the pairs of a query are looked up in their order
abbrev pub looks_all : ℕ → List CacheItem → List (EventId × EventId) → Looked
looks_all q cache [] = record { parts = []; left = []; cache = cache }
looks_all q cache (pair ∷ pairs) =
    let look = looks_up cache pair.0.0 pair.1.0 in looked_first q pair look.told (looks_all q look.after pairs)

-- a query is open for the pairs that are left, if some are
abbrev pub remaining : List (EventId × EventId) → Option (List (EventId × EventId))
remaining [] = None
remaining (pair ∷ pairs) = Some (pair ∷ pairs)

-- the client opens a query: what it remembers is told at once, and the pairs that are left are asked of the server
abbrev pub asks_for : Client → ServerId → Looked → Hearing
asks_for client server looked =
    let after = record client { q = client.q + 1; part = 1; asking = remaining looked.left; cache = looked.cache } in
    record { after = after; told = None; parts = looked.parts; sent = asked_again after server after.asking }

abbrev pub asks : Client → ServerId → List (EventId × EventId) → Hearing
asks client server pairs = asks_for client server (looks_all (client.q + 1) client.cache pairs)

-- the reply of its open command closes it
abbrev pub closes : Client → Placed → Hearing
closes client placed =
    record (unheard (record client { call = None; seen = max client.seen placed.place }))
    { told = Some (record { seq = client.seq; placed = placed }) }

abbrev pub after_reply : Client → Option Command → ℕ → Placed → Hearing
after_reply client None seq placed = unheard client
after_reply client (Some command) seq placed = if seq == client.seq then closes client placed else unheard client

-- an answer that can be given to these two events, which may be one: one event is the same or unknown, two are never
-- the same; and who answers the first part of a query may be unsure of it
abbrev pub may_answer : ℕ → Bool → Answer → Bool
may_answer part same answers.Before = not same
may_answer part same answers.After = not same
may_answer part same answers.Same = same
may_answer part same answers.Concurrent = not same
may_answer part same answers.Unknown = true
may_answer part same answers.Unsure = part == 1

-- there is one answer for each pair, and each can be given
abbrev pub may_answer_all : ℕ → List (EventId × EventId) → List Answer → Bool
may_answer_all part [] [] = true
may_answer_all part [] (answer ∷ answers) = false
may_answer_all part (pair ∷ pairs) [] = false
may_answer_all part (pair ∷ pairs) (answer ∷ answers) =
    may_answer part (pair.0.0 == pair.1.0) answer && may_answer_all part pairs answers

-- a server is sure of each answer but this
abbrev pub is_unsure : Answer → Bool
is_unsure answers.Unsure = true
is_unsure answer = false

-- what is told of each pair that was answered for sure, in their order
abbrev pub parts_of : ℕ → ℕ → Teller → List (EventId × EventId) → List Answer → List ToldPart
parts_of q entry by [] answers = []
parts_of q entry by (pair ∷ pairs) [] = []
parts_of q entry by (pair ∷ pairs) (answer ∷ answers) =
    let rest = parts_of q entry by pairs answers in
    if is_unsure answer then rest else record { q = q; a = pair.0; b = pair.1; answer = answer; entry = entry; by = by } ∷ rest

-- the pairs that were not
abbrev pub unsure_of : List (EventId × EventId) → List Answer → List (EventId × EventId)
unsure_of [] answers = []
unsure_of (pair ∷ pairs) [] = []
unsure_of (pair ∷ pairs) (answer ∷ answers) =
    if is_unsure answer then pair ∷ unsure_of pairs answers else unsure_of pairs answers

-- the cache with each answer that can never change
abbrev pub remembers_all : List CacheItem → ℕ → List (EventId × EventId) → List Answer → List CacheItem
remembers_all cache entry [] answers = cache
remembers_all cache entry (pair ∷ pairs) [] = cache
remembers_all cache entry (pair ∷ pairs) (answer ∷ answers) =
    remembers_all
    (if is_lasting pair.0.0 pair.1.0 answer then remembers most_remembered cache pair.0.0 pair.1.0 answer entry else cache)
    entry pairs answers

-- the answers to the remaining pairs of its open query: what is sure is told, and the pairs that are left are asked of
-- the last server, if some are
abbrev pub answered : Client → List (EventId × EventId) → Teller → Told → Hearing
answered client pairs by told =
    let after = record client {
      part = 2;
      asking = remaining (unsure_of pairs told.answers);
      seen = max client.seen told.entry;
      cache = remembers_all client.cache told.entry pairs told.answers;
    } in
    record {
      after = after;
      told = None;
      parts = parts_of client.q told.entry by pairs told.answers;
      sent = asked_again after (last client) after.asking;
    }

-- answers count where the query is open at this part, and they can be its answers
abbrev pub after_answers : Client → Option (List (EventId × EventId)) → Teller → ℕ → ℕ → Told → Hearing
after_answers client None by q part told = unheard client
after_answers client (Some pairs) by q part told =
    if q == client.q && (part == client.part && may_answer_all part pairs told.answers) then answered client pairs by told
    else unheard client

-- and where a server sent them
abbrev pub answers_from : Client → nodes.Node → ℕ → ℕ → Told → Hearing
answers_from client Manager q part told = unheard client
answers_from client (ToClient other) q part told = unheard client
answers_from client (Server server) q part told = after_answers client client.asking (teller.Server server) q part told

-- the client knows the view from now on
abbrev pub learns : Client → View → Client
learns client view = record client { known = view }

-- the client knows a newer view, and asks the last server of its chain
abbrev pub turns_to : Client → View → Hearing
turns_to client view =
    let after = learns client view in record (unheard after) { sent = asked_again after (last after) after.asking }

-- a server that does not answer the open part of the query has told of its view, which counts where it is newer
abbrev pub after_refer : Client → Option (List (EventId × EventId)) → ℕ → ℕ → View → Hearing
after_refer client None q part view = unheard client
after_refer client (Some pairs) q part view =
    if q == client.q && (part == client.part && nat_lt client.known.number view.number) then turns_to client view else unheard client

-- clients are sent replies, answers and views
abbrev pub message_to : Client → nodes.Node → Message → Hearing
message_to client from (Replied seq placed) = after_reply client client.call seq placed
message_to client from (Answered q part told) = answers_from client from q part told
message_to client from (Refer q part view) = after_refer client client.asking q part view
message_to client from other = unheard client

-- what the client does with a packet that is addressed to it
abbrev pub client_takes : Client → Packet → Hearing
client_takes client packet = message_to client packet.from packet.message
