-- Facts stay where one thing changes: the steps that were done, the marks, the bag, a client, the history.
use Rattle.std.proofs.Common.{◌≡◌, ◌≢◌, ℕ, ◌+◌, ◌-◌, ◌≤◌, List, [], ◌∷◌, ◌++◌, length, take, refl, sym, ap, ◌∙◌, subst, arith}
use Rattle.std.specs.Prelude.{Bool, Some, slice_get, slice_set, All}
use Rattle.std.proofs.lemmas.List.{length-append, take-append-le}
use Rattle.std.proofs.lemmas.List.Elements.{All-append, All-weaker}
use Rattle.kr_order.specs.declared.ids.ClientId.{ClientId}
use Rattle.kr_order.specs.declared.history.Entry.{Entry}
use Rattle.kr_order.specs.declared.message.Packet.{Packet}
use Rattle.kr_order.specs.Prefix.{IsPrefix}
use Rattle.kr_order.specs.Answer.{answer_to}
use Rattle.kr_order.proofs.PrefixLemmas.{IsPrefix-refl}
use Rattle.kr_protocol.specs.Manager.{Manager}
use Rattle.kr_protocol.specs.Server.{Server}
use Rattle.kr_protocol.specs.Cache.{CacheItem}
use Rattle.kr_protocol.specs.Client.{Client}
use Rattle.kr_world.specs.World.{World, client_at, with_packets}
use Rattle.kr_world.specs.Run.{Turn}
use Rattle.kr_world.specs.Lawful.{IsNumbered, begins_by, begun_by, entries_of}
use Rattle.kr_world.specs.Facts.{IsTruePacket, IsTrueServer, IsTrueItem, IsTrueClient, IsInStep, AreFacts, open_calls}
use Rattle.kr_world.proofs.steps.ListFacts.{each_after_set, set_other}
use Rattle.kr_world.proofs.packets.PastLemmas.{IsApart, BeginsNone, begun_by-push, begun_same}
use Rattle.kr_world.proofs.packets.EntryLemmas.{entries_front, numbered_count, numbered_more}
use Rattle.kr_world.proofs.queries.QueryLemmas.{stays, queries_move}
use Rattle.kr_world.proofs.packets.PacketLemmas.{begun_later, packets_later, packets_grown, servers_later}

-- a step leaves numbered entries numbered
numbered_later : (caller : ClientId) (past : List Turn) (turn : Turn) (entries : List Entry)
    → IsNumbered (begun_by caller past) entries → IsNumbered (begun_by caller (past ++ turn ∷ [])) entries
numbered_later caller past turn entries known =
    let begins = begins_by caller turn.event turn.outcome.refused in
    subst (λ b. IsNumbered b entries) (sym (begun_by-push caller past turn)) (numbered_more (begun_by caller past) begins entries known)

-- a client stands at its number
pub at_own : (clients : List Client) (i : ℕ) (client : Client) → client.id.0 ≡ i + 1 → slice_get clients i ≡ Some client
    → slice_get clients (client.id.0 - 1) ≡ Some client
at_own clients i client id there = subst (λ k. slice_get clients k ≡ Some client) (omega arith) there

-- a client that has no part in the step
pub client_stays : (past : List Turn) (turn : Turn) (history : List Entry) (i : ℕ) (client : Client)
    → IsApart turn client.id → client_at turn.outcome.after client.id ≡ Some client
    → IsTrueClient past history i client → IsTrueClient (past ++ turn ∷ []) history i client
client_stays past turn history i client apart at known =
    let id = known.id in
    record {
      id = known.id;
      seq = known.seq ∙ sym (ap length (begun_same client.id past turn apart));
      command = λ command is. begun_later past (turn ∷ []) client.id client.seq command (known.command command is);
      idle = known.idle;
      within = known.within;
      old = known.old;
      queries = queries_move past turn client client refl (omega arith) (stays refl refl refl refl) at known.queries.alone known.queries;
      cache = known.cache;
    }

client_later : (past : List Turn) (turn : Turn) (history : List Entry) (i : ℕ) (client : Client)
    → IsApart turn client.id → slice_get turn.outcome.after.clients i ≡ Some client
    → IsTrueClient past history i client → IsTrueClient (past ++ turn ∷ []) history i client
client_later past turn history i client apart there known =
    client_stays past turn history i client apart (at_own turn.outcome.after.clients i client known.id there) known

-- seqs are in order after a step in which nothing begins
pub in_step_later : (past : List Turn) (turn : Turn) (history : List Entry) → BeginsNone turn → IsInStep past history
    → IsInStep (past ++ turn ∷ []) history
in_step_later past turn history none known =
    record {
      numbered = λ caller. numbered_later caller past turn (entries_of caller history) (known.numbered caller);
      one_open = λ caller. let open_before = known.one_open caller in omega (arith, ap length (begun_same caller past turn (none.apart caller)));
    }

-- facts of a world stay so where nothing begins
pub later_facts : (past : List Turn) (turn : Turn) (world : World) → BeginsNone turn
    → turn.outcome.after.clients ≡ world.clients → AreFacts past world → AreFacts (past ++ turn ∷ []) world
later_facts past turn world none same facts =
    let front = IsPrefix-refl world.history in
    record {
      packets = packets_later past (turn ∷ []) world.history world.history world.bag front facts.packets;
      in_step = in_step_later past turn world.history none facts.in_step;
      clients = λ i client is. client_later past turn world.history i client (none.apart client.id) (subst (λ cs. slice_get cs i ≡ Some client) (sym same) is) (facts.clients i client is);
      servers = servers_later past (turn ∷ []) world.history world.history world.servers front facts.servers;
    }

-- facts once one client has gone on, and the others have begun nothing
pub one_facts : (past : List Turn) (turn : Turn) (world : World) (i : ℕ) (after : Client)
    → turn.outcome.after.clients ≡ slice_set world.clients i after
    → ((caller : ClientId) → length (begun_by caller (past ++ turn ∷ [])) ≤ length (entries_of caller world.history) + 1)
    → ((j : ℕ) (other : Client) → j ≢ i → slice_get world.clients j ≡ Some other → IsApart turn other.id)
    → IsTrueClient (past ++ turn ∷ []) world.history i after → AreFacts past world
    → AreFacts (past ++ turn ∷ []) (record world { clients = slice_set world.clients i after })
one_facts past turn world i after same one_open apart known facts =
    let history = world.history in
    let later = past ++ turn ∷ [] in
    let front = IsPrefix-refl history in
    record {
      packets = packets_later past (turn ∷ []) history history world.bag front facts.packets;
      in_step = record {
        numbered = λ caller. numbered_later caller past turn (entries_of caller history) (facts.in_step.numbered caller);
        one_open = one_open;
      };
      clients = each_after_set (IsTrueClient later history) world.clients i after known (λ j other different found.
          let there = set_other world.clients i after j other different found in
          client_later past turn history j other (apart j other different found) (subst (λ cs. slice_get cs j ≡ Some other) (sym same) there) (facts.clients j other found));
      servers = servers_later past (turn ∷ []) history history world.servers front facts.servers;
    }

-- the marks of packets are no matter
pub marked_facts : (past : List Turn) (world : World) (lost delivered : List Bool) → AreFacts past world
    → AreFacts past (record world { lost = lost; delivered = delivered })
marked_facts past world lost delivered facts =
    record { packets = facts.packets; in_step = facts.in_step; clients = facts.clients; servers = facts.servers }

-- nor is the manager, or which servers have stopped
pub managed_facts : (past : List Turn) (world : World) (manager : Manager) (stopped : List Bool) → AreFacts past world
    → AreFacts past (record world { manager = manager; stopped = stopped })
managed_facts past world manager stopped facts =
    record { packets = facts.packets; in_step = facts.in_step; clients = facts.clients; servers = facts.servers }

-- packets that are true go into the bag
pub sent_facts : (past : List Turn) (world : World) (sent : List Packet) → All (IsTruePacket past world.history) sent
    → AreFacts past world → AreFacts past (with_packets world sent)
sent_facts past world sent said facts =
    record {
      packets = All-append (IsTruePacket past world.history) world.bag sent facts.packets said;
      in_step = facts.in_step;
      clients = facts.clients;
      servers = facts.servers;
    }

-- what is remembered stays true
item_grown : (history later : List Entry) (seen : ℕ) (item : CacheItem) → IsPrefix history later → seen ≤ length history
    → IsTrueItem history seen item → IsTrueItem later seen item
item_grown history later seen item front within known =
    let le = known.within in
    let same : take item.entry later ≡ take item.entry history = ap (take item.entry) front.is ∙ take-append-le item.entry history front.more (omega arith) in
    record { within = le; answer = known.answer ∙ ap (λ h. answer_to h item.first item.second) (sym same); lasts = known.lasts }

-- a client whose history has grown
client_grown : (past : List Turn) (history later : List Entry) (i : ℕ) (client : Client) → IsPrefix history later
    → IsNumbered (begun_by client.id past) (entries_of client.id later) → IsTrueClient past history i client
    → IsTrueClient past later i client
client_grown past history later i client front numbered known =
    let seq = known.seq in
    let within = known.within in
    let more = entries_front client.id history later front in
    let bound = numbered_count (begun_by client.id past) (entries_of client.id later) numbered in
    let front_seen : take client.seen later ≡ take client.seen history = ap (take client.seen) front.is ∙ take-append-le client.seen history front.more within in
    let True = IsTrueItem history client.seen in
    record {
      id = known.id;
      seq = seq;
      command = known.command;
      idle = λ none. let all = known.idle none in omega arith;
      within = omega (arith, ap length front.is, length-append history front.more);
      old = subst (λ h. length (entries_of client.id h) + open_calls client.call ≤ client.seq) (sym front_seen) known.old;
      queries = known.queries;
      cache = All-weaker True (IsTrueItem later client.seen) (λ item was. item_grown history later client.seen item front within was) client.cache known.cache;
    }

-- the history grows, and with it logs of servers
pub grown_facts : (past : List Turn) (world : World) (servers : List Server) (now : List Entry)
    → IsPrefix world.history now → ((caller : ClientId) → IsNumbered (begun_by caller past) (entries_of caller now))
    → All (IsTrueServer past now) servers → AreFacts past world
    → AreFacts past (record world { servers = servers; history = now })
grown_facts past world servers now front numbered known facts =
    record {
      packets = packets_grown past world.history now world.bag front facts.packets;
      in_step = record {
        numbered = numbered;
        one_open = λ caller. let open_before = facts.in_step.one_open caller in omega (arith, entries_front caller world.history now front);
      };
      clients = λ i client is. client_grown past world.history now i client front (numbered client.id) (facts.clients i client is);
      servers = known;
    }
