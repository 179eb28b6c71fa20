-- What servers send, and how much of it.
use Rattle.std.proofs.Common.{◌≡◌, ℕ, ◌+◌, ◌-◌, ◌<◌, ◌≤◌, Bool, true, false, cond, eqb, ltb, List, [], ◌∷◌, length, map, take, reverse, sym, ap, ◌∙◌, arith}
use Rattle.std.specs.Prelude.{min, Option, None, Some, is_none, All, Contains}
use Rattle.std.proofs.lemmas.Bool.{false≢true, lt-ltb}
use Rattle.std.proofs.lemmas.List.{length-map, length-take, length-drop}
use Rattle.std.proofs.lemmas.List.Elements.{All-nil, All-cons, All-head, All-tail, All-map, All-drop, All-weaker, All-contains_itself}
use Rattle.std.proofs.lemmas.List.Folds.{find_at}
use Rattle.std.proofs.lemmas.List.Sorted.{IsPermutation-sym, IsPermutation-reverse, Contains-permutation}
use Rattle.std.specs.List.{position_or_len}
use Rattle.kr_order.specs.declared.ids.ClientId.{ClientId}
use Rattle.kr_order.specs.declared.ids.ServerId.{ServerId}
use Rattle.kr_order.specs.declared.history.Entry.{Entry}
use Rattle.kr_order.specs.declared.history.DoneEntry.{DoneEntry}
use Rattle.kr_order.specs.declared.message.Node.TheVariants.{Server as OfServer}
use Rattle.kr_order.specs.declared.message.Message.TheVariants.{Append}
use Rattle.kr_order.specs.declared.message.Packet.{Packet}
use Rattle.kr_order.specs.Done.{done_of, last_of}
use Rattle.kr_order.proofs.HistoryLemmas.{length-done_from}
use Rattle.kr_protocol.specs.Server.{Server, is_at_tail, is_among, next, lasts, newly_applied, advances, window, window_to, next_entries, ack_to, reply_packet, passes_on}
use Rattle.kr_world.proofs.steps.StepLemmas.{at_index}
use Rattle.kr_world.proofs.shapes.ShapeLemmas.{IsSent, sends_reply, sends_ack, sends_window}

-- what the tail sends when it advances: replies, at most one for each newly applied entry
lasts_few : (dones : List DoneEntry) → length (lasts dones) ≤ length dones
lasts_few [] = omega arith
lasts_few (done ∷ more) = by_test (lasts_few more) (is_among done.entry.client more)
  where
    by_test :
        length (lasts more) ≤ length more
        → (again : Bool)
        → length (cond again (lasts more) (done ∷ lasts more)) ≤ length (done ∷ more)
    by_test few true = omega arith
    by_test few false = omega arith

lasts_some : (done : DoneEntry) (more : List DoneEntry) → 1 ≤ length (lasts (done ∷ more))
lasts_some done [] = omega arith
lasts_some done (next ∷ more) = by_test (lasts_some next more) (is_among done.entry.client (next ∷ more))
  where
    by_test :
        1 ≤ length (lasts (next ∷ more))
        → (again : Bool)
        → 1 ≤ length (cond again (lasts (next ∷ more)) (done ∷ lasts (next ∷ more)))
    by_test some true = some
    by_test some false = omega arith

some_lasts : (dones : List DoneEntry) → 1 ≤ length dones → 1 ≤ length (lasts dones)
some_lasts [] some = absurd (omega arith)
some_lasts (done ∷ more) some = lasts_some done more

length-newly_applied :
    (server : Server) (upto : ℕ)
    → length (newly_applied server upto) ≡ min upto (length server.log) - server.done
length-newly_applied server upto =
    length-drop server.done (done_of (take upto server.log)) ∙ ap (λ n. n - server.done) (length-done_from [] (take upto server.log) ∙ length-take upto server.log)

pub replies_few :
    (server : Server) (upto : ℕ)
    → length (advances server upto).sent ≤ min upto (length server.log) - server.done
replies_few server upto = by_test (is_at_tail server)
  where
    by_test :
        (tail : Bool)
        → length (cond tail (map (reply_packet server.id) (lasts (newly_applied server upto))) []) ≤ min upto (length server.log) - server.done
    by_test true = omega (arith, length-map (lasts (newly_applied server upto)) (reply_packet server.id), lasts_few (newly_applied server upto), length-newly_applied server upto)
    by_test false = omega arith

-- the last of each client's are among them
pub lasts_all : (P : DoneEntry → Type 0) (dones : List DoneEntry) → All P dones → All P (lasts dones)
lasts_all P [] all = All-nil P
lasts_all P (done ∷ more) all = by_test (lasts_all P more (All-tail P done more all)) (is_among done.entry.client more)
  where
    by_test : All P (lasts more) → (again : Bool) → All P (cond again (lasts more) (done ∷ lasts more))
    by_test rest true = rest
    by_test rest false = All-cons P done (lasts more) (All-head P done more all) rest

pub replies_sent :
    (came : Option Packet) (old server : Server) (upto : ℕ)
    → All (IsSent came old (record server { done = upto })) (advances server upto).sent
replies_sent came old server upto = by_test (is_at_tail server)
  where
    Sent : Packet → Type 0
    Sent = IsSent came old (record server { done = upto })

    by_test : (tail : Bool) → All Sent (cond tail (map (reply_packet server.id) (lasts (newly_applied server upto))) [])
    by_test true =
        let dones = done_of (take upto server.log) in
        let news = lasts (newly_applied server upto) in
        let there : All (Contains dones) news =
        lasts_all (Contains dones) (newly_applied server upto) (All-drop (Contains dones) server.done dones (All-contains_itself dones)) in
        All-map Sent (reply_packet server.id) news (All-weaker (Contains dones) (λ done. Sent (reply_packet server.id done)) (λ done at. sends_reply done at) news there)
    by_test false = All-nil Sent

-- a client's last acknowledged entry is one of the acknowledged ones
pub last_among :
    (client : ClientId) (dones : List DoneEntry) (last : DoneEntry)
    → last_of client dones ≡ Some last
    → Contains dones last
last_among client dones last is =
    let own : DoneEntry → Bool = λ done. eqb done.entry.client.0 client.0 in
    let found = sym (find_at own (reverse dones)) ∙ is in
    let at : Contains (reverse dones) last =
    at_index (Contains (reverse dones)) (reverse dones) (position_or_len own (reverse dones)) last (All-contains_itself (reverse dones)) found in
    Contains-permutation (reverse dones) dones last (IsPermutation-sym dones (reverse dones) (IsPermutation-reverse dones)) at

-- the window is one packet at the most, and says what stands in the log
pub window_few : (server : Server) → length (window server) ≤ 1
window_few server = by_next (next server)
  where
    by_next : (to : Option ServerId) → length (window_to server to) ≤ 1
    by_next None = omega arith
    by_next (Some to) = by_test (ltb server.fed (length server.log))
      where
        passed : Packet
        passed = record { from = OfServer server.id; to = OfServer to; message = Append (server.fed + 1) (next_entries server) }

        by_test : (more : Bool) → length (cond more (passed ∷ []) []) ≤ 1
        by_test true = omega arith
        by_test false = omega arith

pub window_sent : (came : Option Packet) (old server : Server) → All (IsSent came old server) (window server)
window_sent came old server = by_next (next server)
  where
    by_next : (to : Option ServerId) → All (IsSent came old server) (window_to server to)
    by_next None = All-nil (IsSent came old server)
    by_next (Some to) = by_test (ltb server.fed (length server.log))
      where
        by_test :
            (more : Bool)
            → All (IsSent came old server) (cond more (record { from = OfServer server.id; to = OfServer to; message = Append (server.fed + 1) (next_entries server) } ∷ []) [])
        by_test true = All-cons (IsSent came old server) _ [] (sends_window to) (All-nil (IsSent came old server))
        by_test false = All-nil (IsSent came old server)

-- where one follows that may lack entries, the window is not empty
pub window_some :
    (server : Server)
    → is_none (next server) ≡ false
    → server.fed < length server.log
    → 1 ≤ length (window server)
window_some server some lacks = by_next (next server) some
  where
    by_next : (to : Option ServerId) → is_none to ≡ false → 1 ≤ length (window_to server to)
    by_next None is = absurd (false≢true (sym is))
    by_next (Some to) is = rw (lt-ltb server.fed (length server.log) lacks) (omega arith)

pub ack_few : (server : Server) (to : Option ServerId) → length (ack_to server to) ≤ 1
ack_few server None = omega arith
ack_few server (Some to) = omega arith

pub ack_sent : (came : Option Packet) (old server : Server) (to : Option ServerId) → All (IsSent came old server) (ack_to server to)
ack_sent came old server None = All-nil (IsSent came old server)
ack_sent came old server (Some to) = All-cons (IsSent came old server) _ [] (sends_ack to) (All-nil (IsSent came old server))

-- what is passed on
pub passes_few : (server : Server) (entries : List Entry) → length (passes_on server entries) ≤ 1
passes_few server [] = omega arith
passes_few server (entry ∷ more) = window_few server

pub passes_sent : (came : Option Packet) (old server : Server) (entries : List Entry) → All (IsSent came old server) (passes_on server entries)
passes_sent came old server [] = All-nil (IsSent came old server)
passes_sent came old server (entry ∷ more) = window_sent came old server

-- the tail replies where it has applied something new
pub tail_replies :
    (server : Server) (upto : ℕ)
    → is_at_tail server ≡ true
    → upto ≤ length server.log
    → server.done < upto
    → 1 ≤ length (advances server upto).sent
tail_replies server upto tail le lt =
    let some = some_lasts (newly_applied server upto) (omega (arith, length-newly_applied server upto)) in
    rw tail (omega (arith, length-map (lasts (newly_applied server upto)) (reply_packet server.id)))
