-- What a client does: it sends what can be spelt, and what it has then can be.
use Rattle.std.proofs.Common.{ℕ, ◌+◌, ◌^◌, ◌<◌, ◌≤◌, Bool, true, false, cond, ◌&&◌, eqb, ltb, List, [], ◌∷◌, length, arith}
use Rattle.std.specs.Prelude.{Option, None, Some, All}
use Rattle.std.proofs.lemmas.List.Elements.{All-nil, All-cons, All-head, All-tail}
use Rattle.kr_order.specs.declared.ids.ServerId.{ServerId}
use Rattle.kr_order.specs.declared.ids.EventId.{EventId}
use Rattle.kr_order.specs.declared.answer.Answer.{Answer}
use Rattle.kr_order.specs.declared.answer.Teller.{Teller}
use Rattle.kr_order.specs.declared.answer.Teller.TheVariants as teller
use Rattle.kr_order.specs.declared.answer.Told.{Told}
use Rattle.kr_order.specs.declared.history.Command.{Command}
use Rattle.kr_order.specs.declared.history.Placed.{Placed}
use Rattle.kr_order.specs.declared.message.Node as nodes
use Rattle.kr_order.specs.declared.message.Node.TheVariants.{Manager, Client as ToClient, Server as ToServer}
use Rattle.kr_order.specs.declared.message.Message.{Message}
use Rattle.kr_order.specs.declared.message.Message.TheVariants.{Replied, Answered, Refer}
use Rattle.kr_order.specs.declared.message.Packet.{Packet}
use Rattle.kr_order.specs.declared.view.View.{View}
use Rattle.kr_protocol.specs.Cache.{CacheItem, CacheAnswer, looks_up}
use Rattle.kr_protocol.specs.Client.{Client, Hearing, Looked, last, begins, asked_again, tried_again, retries, unheard, looked_first, looks_all, remaining, asks, closes, after_reply, may_answer_all, is_unsure, unsure_of, answered, after_answers, answers_from, learns, turns_to, after_refer, message_to, client_takes}
use Rattle.kr_wire.specs.Valid.{IsFrom, IsId, IsAskedPair, IsCommand, IsView, IsMessage, IsPacket}
use Rattle.wire_fit.specs.Spoken.{IsSpokenOpen, IsSpokenCall, IsSpokenAsked, IsSpokenClient}
use Rattle.wire_fit.proofs.ViewLemmas.{IsServerId, first_of_fits, last_of_fits}
use Rattle.wire_fit.proofs.SendLemmas.{one_fits, none_fits}

-- a client whose numbers can be spelt, and the next ones too
pub record IsFitClient (client : Client) : Type 0 where
  pub spoken : IsSpokenClient client
  pub seq : client.seq < 2 ^ 63
  pub q : client.q < 2 ^ 63

-- the client afterwards can be spelt, and so can what it sends
pub record IsFitHearing (hearing : Hearing) : Type 0 where
  pub after : IsSpokenClient hearing.after
  pub sent : All IsPacket hearing.sent

unheard_fits : (client : Client) → IsSpokenClient client → IsFitHearing (unheard client)
unheard_fits client fits = record { after = fits; sent = none_fits }

-- ---- commands

pub begun_fits : (client : Client) (command : Command) → IsFitClient client → IsCommand command
    → IsSpokenClient (begins client command).after
begun_fits client command fits fit =
    let spoken = fits.spoken in
    record {
      id = spoken.id;
      call = record { begun = omega arith; fits = fit };
      part = spoken.part;
      asking = spoken.asking;
      known = spoken.known;
    }

pub request_sent : (client : Client) (command : Command) → IsFitClient client → IsCommand command
    → All IsPacket (begins client command).sent
request_sent client command fits fit =
    let spoken = fits.spoken in
    let seq = fits.seq in
    one_fits _ (record {
      from = spoken.id;
      to = first_of_fits client.known spoken.known;
      message = record { seq_fits = record { above = omega arith; fits = omega arith }; command_fits = fit };
    })

-- what is open, tried again
asked_again_fits : (client : Client) (server : ServerId) (asking : Option (List (EventId × EventId))) → IsId client.id.0
    → IsServerId server → IsFrom 1 2 client.part → client.q < 2 ^ 64
    → IsSpokenOpen (IsSpokenAsked client.q) asking → All IsPacket (asked_again client server asking)
asked_again_fits client server None from to part few fits = none_fits
asked_again_fits client server (Some pairs) from to part few fits =
    one_fits _ (record {
      from = from;
      to = to;
      message = record {
        query = record { q_fits = record { above = fits.begun; fits = few }; part_fits = part };
        pairs_fit = fits.fit;
      };
    })

tried_again_fits : (client : Client) (server : ServerId) (call : Option Command) → IsFitClient client → IsServerId server
    → IsSpokenOpen (IsSpokenCall client.seq) call
    → All IsPacket (tried_again client server call)
tried_again_fits client server None fits to call =
    let spoken = fits.spoken in
    let q = fits.q in
    asked_again_fits client server client.asking spoken.id to spoken.part (omega arith) spoken.asking
tried_again_fits client server (Some command) fits to call =
    let spoken = fits.spoken in
    let seq = fits.seq in
    one_fits _ (record {
      from = spoken.id;
      to = to;
      message = record { seq_fits = record { above = call.begun; fits = omega arith }; command_fits = call.fits };
    })

pub retry_sent : (client : Client) (server : ServerId) → IsFitClient client → IsServerId server
    → All IsPacket (retries client server)
retry_sent client server fits to = tried_again_fits client server client.call fits to fits.spoken.call

-- ---- queries

-- so many pairs at the most
pub record AreFewPairs (n : ℕ) (pairs : List (EventId × EventId)) : Type 0 where
  pub all : All IsAskedPair pairs
  pub few : length pairs ≤ n

one_more : (n : ℕ) (pair : EventId × EventId) (pairs : List (EventId × EventId)) → IsAskedPair pair → AreFewPairs n pairs
    → AreFewPairs (n + 1) (pair ∷ pairs)
one_more n pair pairs fit fits =
    let few = fits.few in record { all = All-cons IsAskedPair pair pairs fit fits.all; few = omega arith }

no_more : (n : ℕ) (pairs : List (EventId × EventId)) → AreFewPairs n pairs → AreFewPairs (n + 1) pairs
no_more n pairs fits =
    let few = fits.few in record { all = fits.all; few = omega arith }

few_of : (n m : ℕ) (pairs : List (EventId × EventId)) → n ≤ m → AreFewPairs n pairs → AreFewPairs m pairs
few_of n m pairs le fits =
    let few = fits.few in record { all = fits.all; few = omega arith }

no_pairs : AreFewPairs 0 []
no_pairs = record { all = All-nil IsAskedPair; few = omega arith }

remaining_fits : (q : ℕ) (pairs : List (EventId × EventId)) → 1 ≤ q → AreFewPairs 32 pairs
    → IsSpokenOpen (IsSpokenAsked q) (remaining pairs)
remaining_fits q [] begun fits = tt
remaining_fits q (pair ∷ pairs) begun fits =
    let few = fits.few in
    record { begun = begun; fit = record { count = record { least = omega arith; most = few }; each = fits.all } }

-- the pairs that were not found
left_fits : (q : ℕ) (cache : List CacheItem) (pairs : List (EventId × EventId)) → All IsAskedPair pairs
    → AreFewPairs (length pairs) (looks_all q cache pairs).left
left_fits q cache [] all = no_pairs
left_fits q cache (pair ∷ pairs) all =
    let look = looks_up cache pair.0.0 pair.1.0 in
    few_of (length pairs + 1) (length (pair ∷ pairs)) (looked_first q pair look.told (looks_all q look.after pairs)).left
    (omega arith)
    (by_told look.told (looks_all q look.after pairs) (left_fits q look.after pairs (All-tail IsAskedPair pair pairs all)))
  where
    by_told : (told : Option CacheAnswer) (rest : Looked) → AreFewPairs (length pairs) rest.left
        → AreFewPairs (length pairs + 1) (looked_first q pair told rest).left
    by_told None rest fits = one_more (length pairs) pair rest.left (All-head IsAskedPair pair pairs all) fits
    by_told (Some answer) rest fits = no_more (length pairs) rest.left fits

pub query_fits : (client : Client) (server : ServerId) (pairs : List (EventId × EventId)) → IsFitClient client
    → IsServerId server → AreFewPairs 32 pairs
    → IsFitHearing (asks client server pairs)
query_fits client server pairs fits to pairs_fit =
    let spoken = fits.spoken in
    let q = fits.q in
    let hearing = asks client server pairs in
    let left =
    few_of (length pairs) 32 (looks_all (client.q + 1) client.cache pairs).left pairs_fit.few
    (left_fits (client.q + 1) client.cache pairs pairs_fit.all) in
    let part : IsFrom 1 2 1 = record { least = omega arith; most = omega arith } in
    let asking = remaining_fits (client.q + 1) (looks_all (client.q + 1) client.cache pairs).left (omega arith) left in
    record {
      after = record { id = spoken.id; call = spoken.call; part = part; asking = asking; known = spoken.known };
      sent = asked_again_fits hearing.after server hearing.after.asking spoken.id to part (omega arith) asking;
    }

-- the pairs that were not answered for sure
unsure_fits : (pairs : List (EventId × EventId)) (answers : List Answer) → All IsAskedPair pairs
    → AreFewPairs (length pairs) (unsure_of pairs answers)
unsure_fits [] answers all = no_pairs
unsure_fits (pair ∷ pairs) [] all = few_of 0 (length (pair ∷ pairs)) [] (omega arith) no_pairs
unsure_fits (pair ∷ pairs) (answer ∷ answers) all =
    few_of (length pairs + 1) (length (pair ∷ pairs)) (unsure_of (pair ∷ pairs) (answer ∷ answers)) (omega arith)
    (by_test (is_unsure answer) (unsure_fits pairs answers (All-tail IsAskedPair pair pairs all)))
  where
    by_test : (unsure : Bool) → AreFewPairs (length pairs) (unsure_of pairs answers)
        → AreFewPairs (length pairs + 1) (cond unsure (pair ∷ unsure_of pairs answers) (unsure_of pairs answers))
    by_test true fits = one_more (length pairs) pair (unsure_of pairs answers) (All-head IsAskedPair pair pairs all) fits
    by_test false fits = no_more (length pairs) (unsure_of pairs answers) fits

answered_fits : (client : Client) (pairs : List (EventId × EventId)) (by : Teller) (told : Told) → IsFitClient client
    → IsSpokenAsked client.q pairs
    → IsFitHearing (answered client pairs by told)
answered_fits client pairs by told fits open_fits =
    let spoken = fits.spoken in
    let q = fits.q in
    let after = (answered client pairs by told).after in
    let left =
    few_of (length pairs) 32 (unsure_of pairs told.answers) open_fits.fit.count.most
    (unsure_fits pairs told.answers open_fits.fit.each) in
    let part : IsFrom 1 2 2 = record { least = omega arith; most = omega arith } in
    let asking = remaining_fits client.q (unsure_of pairs told.answers) open_fits.begun left in
    record {
      after = record { id = spoken.id; call = spoken.call; part = part; asking = asking; known = spoken.known };
      sent =
          asked_again_fits after (last after) after.asking spoken.id (last_of_fits client.known spoken.known) part (omega arith)
          asking;
    }

-- ---- what it hears

reply_heard : (client : Client) (call : Option Command) (seq : ℕ) (placed : Placed) → IsSpokenClient client
    → IsFitHearing (after_reply client call seq placed)
reply_heard client None seq placed fits = unheard_fits client fits
reply_heard client (Some command) seq placed fits = by_test (eqb seq client.seq)
  where
    by_test : (test : Bool) → IsFitHearing (cond test (closes client placed) (unheard client))
    by_test true =
        record {
          after = record { id = fits.id; call = tt; part = fits.part; asking = fits.asking; known = fits.known };
          sent = none_fits;
        }
    by_test false = unheard_fits client fits

answers_heard : (client : Client) (asking : Option (List (EventId × EventId))) (by : Teller) (q part : ℕ) (told : Told)
    → IsFitClient client → IsSpokenOpen (IsSpokenAsked client.q) asking
    → IsFitHearing (after_answers client asking by q part told)
answers_heard client None by q part told fits fit = unheard_fits client fits.spoken
answers_heard client (Some pairs) by q part told fits fit =
    by_test (eqb q client.q && (eqb part client.part && may_answer_all part pairs told.answers))
  where
    by_test : (test : Bool) → IsFitHearing (cond test (answered client pairs by told) (unheard client))
    by_test true = answered_fits client pairs by told fits fit
    by_test false = unheard_fits client fits.spoken

answers_from_heard : (client : Client) (from : nodes.Node) (q part : ℕ) (told : Told) → IsFitClient client
    → IsFitHearing (answers_from client from q part told)
answers_from_heard client Manager q part told fits = unheard_fits client fits.spoken
answers_from_heard client (ToClient other) q part told fits = unheard_fits client fits.spoken
answers_from_heard client (ToServer server) q part told fits =
    answers_heard client client.asking (teller.Server server) q part told fits fits.spoken.asking

pub learnt_fits : (client : Client) (view : View) → IsSpokenClient client → IsView view → IsSpokenClient (learns client view)
learnt_fits client view fits view_fits =
    record { id = fits.id; call = fits.call; part = fits.part; asking = fits.asking; known = view_fits }

refer_heard : (client : Client) (asking : Option (List (EventId × EventId))) (q part : ℕ) (view : View) → IsFitClient client
    → IsView view → IsFitHearing (after_refer client asking q part view)
refer_heard client None q part view fits fit = unheard_fits client fits.spoken
refer_heard client (Some pairs) q part view fits fit =
    by_test (eqb q client.q && (eqb part client.part && ltb client.known.number view.number))
  where
    by_test : (test : Bool) → IsFitHearing (cond test (turns_to client view) (unheard client))
    by_test true =
        let spoken = fits.spoken in
        let few = fits.q in
        let after = learns client view in
        record {
          after = learnt_fits client view spoken fit;
          sent =
              asked_again_fits after (last after) after.asking spoken.id (last_of_fits view fit) spoken.part (omega arith)
              spoken.asking;
        }
    by_test false = unheard_fits client fits.spoken

message_heard : (client : Client) (from : nodes.Node) (message : Message) → IsFitClient client → IsMessage message
    → IsFitHearing (message_to client from message)
message_heard client from (Replied seq placed) fits fit = reply_heard client client.call seq placed fits.spoken
message_heard client from (Answered q part told) fits fit = answers_from_heard client from q part told fits
message_heard client from (Refer q part view) fits fit = refer_heard client client.asking q part view fits fit.view_fits
message_heard client from other fits fit = unheard_fits client fits.spoken

-- what a client does with a packet that can be spelt
pub packet_heard : (client : Client) (packet : Packet) → IsFitClient client → IsPacket packet
    → IsFitHearing (client_takes client packet)
packet_heard client packet fits fit = message_heard client packet.from packet.message fits fit.message
