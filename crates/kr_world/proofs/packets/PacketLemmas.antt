-- Packets stay true, and the replies of entries are true.
use Rattle.std.proofs.Common.{◌≡◌, ℕ, ◌+◌, ◌-◌, ◌<◌, ◌≤◌, List, [], ◌∷◌, ◌++◌, length, take, refl, sym, ap, ◌∙◌, subst, arith}
use Rattle.std.specs.Prelude.{slice_get, All}
use Rattle.std.proofs.lemmas.List.{append-nil, length-append, take-append-le, take_at}
use Rattle.std.proofs.lemmas.List.Elements.{All-weaker}
use Rattle.std.proofs.lemmas.Option.{slice_get_within}
use Rattle.kr_order.specs.declared.ids.ClientId.{ClientId}
use Rattle.kr_order.specs.declared.history.Command.{Command}
use Rattle.kr_order.specs.declared.history.Entry.{Entry}
use Rattle.kr_order.specs.declared.history.Placed.{Placed}
use Rattle.kr_order.specs.declared.message.Node as nodes
use Rattle.kr_order.specs.declared.message.Node.TheVariants.{Manager, Client as AtClient, Server as AtServer}
use Rattle.kr_order.specs.declared.message.Message.{Message}
use Rattle.kr_order.specs.declared.message.Message.TheVariants.{Request, Replied, Ask, Answered}
use Rattle.kr_order.specs.declared.message.Packet.{Packet}
use Rattle.kr_order.specs.declared.answer.Query.{Query}
use Rattle.kr_order.specs.declared.answer.Told.{Told}
use Rattle.kr_order.specs.declared.ids.EventId.{EventId}
use Rattle.kr_order.specs.Prefix.{IsPrefix}
use Rattle.kr_order.specs.Reply.{reply_to}
use Rattle.kr_order.specs.Answer.{answers_after}
use Rattle.kr_protocol.specs.Server.{Server, told_by}
use Rattle.kr_world.specs.Run.{Turn}
use Rattle.kr_world.specs.Lawful.{IsNumbered, IsToldTruly, begun_by, entries_of}
use Rattle.kr_world.specs.Facts.{HasBegun, IsAsked, AreAnswers, StandsAt, IsTrueRequest, IsTrueReply, IsTrueAsk, IsTrueAnswer, IsTrueMessage, IsTruePacket, IsTrueQuery, IsLawfulLog, IsTrueServer}
use Rattle.kr_protocol.proofs.ListLemmas.{slice_get_left, slice_get_at}
use Rattle.kr_world.proofs.packets.PastLemmas.{begun_by-append}
use Rattle.kr_world.proofs.queries.QueryLemmas.{asked_later}
use Rattle.kr_world.proofs.packets.EntryLemmas.{numbered_more}

pub same_client : (a b : ClientId) → a.0 ≡ b.0 → a ≡ b
same_client a b is = let id : ℕ → ClientId = λ n. record { 0 = n } in ap id is

pub begun_later : (past more : List Turn) (caller : ClientId) (seq : ℕ) (command : Command)
    → HasBegun past caller seq command → HasBegun (past ++ more) caller seq command
begun_later past more caller seq command known =
    record {
      caller_low = known.caller_low;
      seq_low = known.seq_low;
      begun = ap (λ b. slice_get b (seq - 1)) (begun_by-append caller past more) ∙ slice_get_left (begun_by caller past) (begun_by caller more) (seq - 1) command known.begun;
    }

pub stands_later : (history more : List Entry) (caller : ClientId) (seq : ℕ) (placed : Placed)
    → StandsAt history caller seq placed → StandsAt (history ++ more) caller seq placed
stands_later history more caller seq placed known =
    let within = slice_get_within history (placed.place - 1) known.entry known.stands in
    let front : take (placed.place - 1) (history ++ more) ≡ take (placed.place - 1) history = take-append-le (placed.place - 1) history more (omega arith) in
    record {
      entry = known.entry;
      caller_low = known.caller_low;
      place_low = known.place_low;
      stands = slice_get_left history more (placed.place - 1) known.entry known.stands;
      client = known.client;
      seq_is = known.seq_is;
      reply = known.reply ∙ ap (λ h. reply_to h known.entry.command) (sym front);
    }

-- a query that was asked stays so
ask_stays : (past turns : List Turn) (history more : List Entry) (caller : ClientId) (q part : ℕ)
    (pairs : List (EventId × EventId)) → IsAsked past history caller q part pairs
    → IsAsked (past ++ turns) (history ++ more) caller q part pairs
ask_stays past turns history more caller q part pairs known =
    let within = known.within in
    record { seen = known.seen; asked = asked_later past turns caller q part pairs known.seen known.asked; within = omega (arith, length-append history more) }

answers_later : (past turns : List Turn) (history more : List Entry) (caller : ClientId) (q part : ℕ) (told : Told)
    → AreAnswers past history caller q part told → AreAnswers (past ++ turns) (history ++ more) caller q part told
answers_later past turns history more caller q part told known =
    let within = known.within in
    record {
      pairs = known.pairs;
      seen = known.seen;
      asked = asked_later past turns caller q part known.pairs known.seen known.asked;
      within = omega (arith, length-append history more);
      tail = known.tail;
      answers = known.answers ∙ ap (λ h. told_by known.tail (answers_after h known.pairs)) (sym (take-append-le told.entry history more within));
      current = known.current;
    }

request_later : (past more : List Turn) (from : nodes.Node) (seq : ℕ) (command : Command)
    → IsTrueRequest past from seq command → IsTrueRequest (past ++ more) from seq command
request_later past more Manager seq command known = known
request_later past more (AtClient client) seq command known = begun_later past more client seq command known
request_later past more (AtServer server) seq command known = known

reply_later : (history more : List Entry) (to : nodes.Node) (seq : ℕ) (placed : Placed)
    → IsTrueReply history to seq placed → IsTrueReply (history ++ more) to seq placed
reply_later history more Manager seq placed known = known
reply_later history more (AtClient client) seq placed known = stands_later history more client seq placed known
reply_later history more (AtServer server) seq placed known = known

ask_later : (past turns : List Turn) (history more : List Entry) (from : nodes.Node) (q part : ℕ)
    (pairs : List (EventId × EventId)) → IsTrueAsk past history from q part pairs
    → IsTrueAsk (past ++ turns) (history ++ more) from q part pairs
ask_later past turns history more Manager q part pairs known = known
ask_later past turns history more (AtClient client) q part pairs known = ask_stays past turns history more client q part pairs known
ask_later past turns history more (AtServer server) q part pairs known = known

answer_later : (past turns : List Turn) (history more : List Entry) (to : nodes.Node) (q part : ℕ) (told : Told)
    → IsTrueAnswer past history to q part told → IsTrueAnswer (past ++ turns) (history ++ more) to q part told
answer_later past turns history more Manager q part told known = known
answer_later past turns history more (AtClient client) q part told known = answers_later past turns history more client q part told known
answer_later past turns history more (AtServer server) q part told known = known

message_later : (past turns : List Turn) (history more : List Entry) (from to : nodes.Node) (message : Message)
    → IsTrueMessage past history from to message → IsTrueMessage (past ++ turns) (history ++ more) from to message
message_later past turns history more from to (Request seq command) known = request_later past turns from seq command known
message_later past turns history more from to (Replied seq placed) known = reply_later history more to seq placed known
message_later past turns history more from to (Ask q part pairs) known = ask_later past turns history more from q part pairs known
message_later past turns history more from to (Answered q part told) known = answer_later past turns history more to q part told known
message_later past turns history more from to other known = known

packet_later : (past turns : List Turn) (history later : List Entry) (packet : Packet) → IsPrefix history later
    → IsTruePacket past history packet → IsTruePacket (past ++ turns) later packet
packet_later past turns history later packet front known =
    subst (λ h. IsTruePacket (past ++ turns) h packet) (sym front.is) (message_later past turns history front.more packet.from packet.to packet.message known)

-- the packets of a bag stay true
pub packets_later : (past turns : List Turn) (history later : List Entry) (bag : List Packet) → IsPrefix history later
    → All (IsTruePacket past history) bag → All (IsTruePacket (past ++ turns) later) bag
packets_later past turns history later bag front known =
    All-weaker (IsTruePacket past history) (IsTruePacket (past ++ turns) later) (λ packet true_then. packet_later past turns history later packet front true_then) bag known

-- also where the history alone has grown
pub packets_grown : (past : List Turn) (history later : List Entry) (bag : List Packet) → IsPrefix history later
    → All (IsTruePacket past history) bag → All (IsTruePacket past later) bag
packets_grown past history later bag front known = subst (λ p. All (IsTruePacket p later) bag) (append-nil past) (packets_later past [] history later bag front known)

-- a lawful log stays so
lawful_later : (past turns : List Turn) (log : List Entry) → IsLawfulLog past log
    → IsLawfulLog (past ++ turns) log
lawful_later past turns log known =
    record {
      callers = known.callers;
      numbered = λ caller.
          let more = numbered_more (begun_by caller past) (begun_by caller turns) (entries_of caller log) (known.numbered caller) in
          subst (λ b. IsNumbered b (entries_of caller log)) (sym (begun_by-append caller past turns)) more;
    }

-- queries that wait stay true
queries_later : (past turns : List Turn) (history later : List Entry) (waiting : List Query) → IsPrefix history later
    → All (IsTrueQuery past history) waiting → All (IsTrueQuery (past ++ turns) later) waiting
queries_later past turns history later waiting front known =
    let Now = IsTrueQuery (past ++ turns) in
    All-weaker (IsTrueQuery past history) (Now later) (λ query asked. subst (λ h. Now h query) (sym front.is) (ask_stays past turns history front.more query.client query.q query.part query.pairs asked)) waiting known

pub queries_grown : (past : List Turn) (history later : List Entry) (waiting : List Query) → IsPrefix history later
    → All (IsTrueQuery past history) waiting → All (IsTrueQuery past later) waiting
queries_grown past history later waiting front known =
    subst (λ p. All (IsTrueQuery p later) waiting) (append-nil past) (queries_later past [] history later waiting front known)

-- and logs lawful
pub servers_later : (past turns : List Turn) (history later : List Entry) (servers : List Server)
    → IsPrefix history later → All (IsTrueServer past history) servers
    → All (IsTrueServer (past ++ turns) later) servers
servers_later past turns history later servers front known =
    All-weaker (IsTrueServer past history) (IsTrueServer (past ++ turns) later) (λ server was. record {
      waiting = queries_later past turns history later server.waiting front was.waiting;
      log = lawful_later past turns server.log was.log;
    }) servers known

pub servers_grown : (past : List Turn) (history later : List Entry) (servers : List Server) → IsPrefix history later
    → All (IsTrueServer past history) servers → All (IsTrueServer past later) servers
servers_grown past history later servers front known =
    subst (λ p. All (IsTrueServer p later) servers) (append-nil past) (servers_later past [] history later servers front known)

-- an entry stands at its place
pub entry_stands : (before : List Entry) (entry : Entry) (after : List Entry) → 1 ≤ entry.client.0
    → StandsAt (before ++ entry ∷ after) entry.client entry.seq (record { place = length before + 1; reply = reply_to before entry.command })
entry_stands before entry after low =
    let index : length before ≡ length before + 1 - 1 = omega arith in
    record {
      entry = entry;
      caller_low = low;
      place_low = omega arith;
      stands = slice_get_at before entry after (length before + 1 - 1) index;
      client = refl;
      seq_is = refl;
      reply = ap (λ h. reply_to h entry.command) (sym (take_at before (entry ∷ after) (length before + 1 - 1) index));
    }

-- what a client is told of what stands
pub told_truly : (history : List Entry) (seen : ℕ) (caller : ClientId) (seq : ℕ) (placed : Placed)
    → StandsAt history caller seq placed → seen < placed.place
    → IsToldTruly history seen (record { client = caller; reply = record { seq = seq; placed = placed } })
told_truly history seen caller seq placed known past_seen =
    record { entry = known.entry; past_seen = past_seen; stands = known.stands; client = known.client; seq = known.seq_is; reply = known.reply }
