-- How many queries may come in a round: two of each client at the most.
use Rattle.kr_order.specs.declared.message.Node.TheVariants.{Manager as ToManager, Client as ToClient, Server as ToServer}
use Rattle.kr_order.specs.declared.message.Node as nodes
use Rattle.kr_protocol.specs.Client.{Client, learns, last, client_takes, message_to, after_reply, after_answers, answers_from, closes, unheard, answered, may_answer_all, asked_again, tried_again, retries, remaining, unsure_of, Hearing, is_busy}
use Rattle.kr_protocol.specs.Server.{Server, server_takes, server_works, server_ticks, view_number}
use Rattle.kr_protocol.specs.Manager.{announces, view_packet, named_by}
use Rattle.std.proofs.Common.{Bool, List, [], ap, arith, cond, drop, eqb, false, inl, inr, length, map, not, refl, set, subst, sym, true, ℕ, ◌&&◌, ◌++◌, ◌+◌, ◌-◌, ◌<◌, ◌∙◌, ◌∷◌, ◌≡◌, ◌≤◌, ◌⊎◌}
use Rattle.std.specs.Prelude.{All, None, Option, Some, filter, flat_map, is_some, slice_get, sum_by}
use Rattle.std.proofs.lemmas.Bool.{and_parts, cases_lt, eqb-true}
use Rattle.std.proofs.lemmas.List.{drop-append-le}
use Rattle.std.proofs.lemmas.List.Concat.{flat_map-cons}
use Rattle.std.proofs.lemmas.List.Elements.{All-head, All-map, All-tail}
use Rattle.std.proofs.lemmas.List.Sums.{sum_by-append, sum_by-cons, sum_by-le, sum_by-set}
use Rattle.std.proofs.lemmas.Option.{get_or_from_slice_get, slice_get_within}
use Rattle.kr_order.specs.Numbers.{numbers_to}
use Rattle.kr_order.specs.declared.answer.Teller.{Teller}
use Rattle.kr_order.specs.declared.answer.Told.{Told}
use Rattle.kr_order.specs.declared.history.Command.{Command}
use Rattle.kr_order.specs.declared.history.Placed.{Placed}
use Rattle.kr_order.specs.declared.ids.ClientId.{ClientId}
use Rattle.kr_order.specs.declared.ids.EventId.{EventId}
use Rattle.kr_order.specs.declared.ids.ServerId.{ServerId}
use Rattle.kr_order.specs.declared.message.Message.{Message}
use Rattle.kr_order.specs.declared.message.Message.TheVariants.{Answered, Ask, Refer, Replied}
use Rattle.kr_order.specs.declared.message.Node.{Node}
use Rattle.kr_order.specs.declared.message.Packet.{Packet}
use Rattle.kr_order.specs.declared.view.View.{View}
use Rattle.kr_protocol.proofs.ListLemmas.{length-numbers_to}
use Rattle.script_lang.specs.declared.script.Event.{Event}
use Rattle.script_lang.specs.declared.script.Event.TheVariants.{Deliver, Retry, Tick}
use Rattle.kr_world.proofs.chain.ChainLemmas.{chain_of, own_old}
use Rattle.kr_world.proofs.steps.GrowLemmas.{step_grows}
use Rattle.kr_world.proofs.steps.ListFacts.{all_of}
use Rattle.kr_world.proofs.queries.SureLemmas.{left_of_first}
use Rattle.kr_world.specs.Round.{after_all, aim, delivery_events, is_under_way, learn_events, learn_of, learnt, learnt_retry_events, learnt_retry_of, retry_at, round_calls, running, tick_events, tick_of, work_events, work_of}
use Rattle.kr_world.specs.Sound.{IsSound}
use Rattle.kr_world.specs.Step.{step}
use Rattle.kr_world.specs.World.{World, client_at, is_stopped, server_at}
use Rattle.kr_calm.proofs.DoesLemmas.{Does, does_hear, does_learn, does_mark, does_nothing, does_retry, does_take, does_tell, does_tick, does_work}
use Rattle.kr_calm.proofs.KnownLemmas.{AllKnow, Knows, all_know_stable, not_referred, refers_back}
use Rattle.kr_calm.proofs.ReachedLemmas.{InCalm, IsRoundStep, calm_does, calm_step}
use Rattle.kr_calm.proofs.ReferLemmas.{IsNoNewer, RefersBack}
use Rattle.kr_calm.proofs.SpeakLemmas.{MayBeSaid, MayBeSent, takes_may, tick_may, works_may}
use Rattle.kr_calm.proofs.WayLemmas.{calm_lasts}
use Rattle.kr_order.specs.declared.answer.Teller.TheVariants as teller

abbrev pub asks_something : Message → Bool
asks_something (Ask q part pairs) = true
asks_something other = false

abbrev pub is_ask : Packet → Bool
is_ask packet = asks_something packet.message

-- 1 where it holds
abbrev pub one_if : Bool → ℕ
one_if true = 1
one_if false = 0

-- how many of these packets ask
abbrev pub asks_in : List Packet → ℕ
asks_in packets = sum_by (λ packet. one_if (is_ask packet)) packets

-- whether the client may go on to the second part of its query
abbrev pub turns : Client → ℕ
turns client = one_if (is_some client.asking && eqb client.part 1)

-- the queries that came behind the first n packets, and those that may
abbrev pub asked_since : ℕ → World → ℕ
asked_since n world = asks_in (drop n world.bag) + sum_by turns world.clients

no_asks : (n : ℕ) (packets : List Packet) → All (MayBeSent n) packets → asks_in packets ≡ 0
no_asks n [] all = refl
no_asks n (packet ∷ packets) all =
    let rest = no_asks n packets (All-tail (MayBeSent n) packet packets all) in
    let one = by_message packet.message (All-head (MayBeSent n) packet packets all) in
    omega (arith, sum_by-cons (λ p. one_if (is_ask p)) packet packets, ap one_if one)
  where
    by_message : (message : Message) → MayBeSaid n message → asks_something message ≡ false
    by_message (Ask q part pairs) may = absurd may
    by_message other may = refl

-- what stands behind the first n packets when some are added
pub asks_more : (n : ℕ) (bag sent : List Packet) → n ≤ length bag → asks_in (drop n (bag ++ sent)) ≡ asks_in (drop n bag) + asks_in sent
asks_more n bag sent le = ap asks_in (drop-append-le n bag sent le) ∙ sum_by-append (λ p. one_if (is_ask p)) (drop n bag) sent

-- the manager asks nothing
announced_none : (view : View) → asks_in (announces view) ≡ 0
announced_none view = no_asks 0 (announces view) (All-map (MayBeSent 0) (view_packet view) (named_by view) (all_of (λ id. MayBeSent 0 (view_packet view id)) (λ id. tt) (named_by view)))

again_one : (client : Client) (server : ServerId) (asking : Option (List (EventId × EventId))) → asks_in (asked_again client server asking) ≡ one_if (is_some asking)
again_one client server None = refl
again_one client server (Some pairs) = refl

tried_few : (client : Client) (server : ServerId) (call : Option Command) → asks_in (tried_again client server call) ≤ 1
tried_few client server None = by_asking client.asking
  where
    by_asking : (asking : Option (List (EventId × EventId))) → asks_in (asked_again client server asking) ≤ 1
    by_asking None = omega arith
    by_asking (Some pairs) = omega arith
tried_few client server (Some command) = omega arith

-- a client asks only when it goes on to the second part
abbrev HearsFew : Client → Hearing → Type 0
HearsFew client hearing = asks_in hearing.sent + turns hearing.after ≤ turns client

unheard_few : (client : Client) → HearsFew client (unheard client)
unheard_few client = omega arith

reply_few : (client : Client) (call : Option Command) (seq : ℕ) (placed : Placed) → HearsFew client (after_reply client call seq placed)
reply_few client None seq placed = unheard_few client
reply_few client (Some command) seq placed = by_test (eqb seq client.seq)
  where
    by_test : (test : Bool) → HearsFew client (cond test (closes client placed) (unheard client))
    by_test true = omega arith
    by_test false = unheard_few client

answers_few : (client : Client) (asking : Option (List (EventId × EventId))) (by : Teller) (q part : ℕ) (told : Told) → client.asking ≡ asking → HearsFew client (after_answers client asking by q part told)
answers_few client None by q part told is = unheard_few client
answers_few client (Some pairs) by q part told is = by_test (eqb q client.q && (eqb part client.part && may_answer_all part pairs told.answers)) refl
  where
    after : Client
    after = (answered client pairs by told).after

    by_left : (unsure_of pairs told.answers ≡ []) ⊎ (part ≡ 1) → part ≡ client.part → HearsFew client (answered client pairs by told)
    by_left (inl none) same =
        let left : remaining (unsure_of pairs told.answers) ≡ None = ap remaining none in
        let sent : asks_in (answered client pairs by told).sent ≡ 0 = again_one (answered client pairs by told).after (last client) (remaining (unsure_of pairs told.answers)) ∙ ap (λ o. one_if (is_some o)) left in
        let turn : turns (answered client pairs by told).after ≡ 0 = ap (λ o. one_if (is_some o && eqb 2 1)) left in
        omega (arith, sent, turn)
    by_left (inr one) same =
        let sent = again_one (answered client pairs by told).after (last client) (remaining (unsure_of pairs told.answers)) in
        let turn : turns (answered client pairs by told).after ≡ 0 = no_turn (is_some (remaining (unsure_of pairs told.answers))) in
        let before : turns client ≡ 1 = ap (λ o. one_if (is_some o && eqb client.part 1)) is ∙ ap (λ n. one_if (eqb n 1)) (sym same ∙ one) in
        omega (arith, sent, turn, before, at_most (is_some (remaining (unsure_of pairs told.answers))))
      where
        no_turn : (some : Bool) → one_if (some && eqb 2 1) ≡ 0
        no_turn true = refl
        no_turn false = refl

        at_most : (some : Bool) → one_if some ≤ 1
        at_most true = omega arith
        at_most false = omega arith

    by_test : (test : Bool) → (eqb q client.q && (eqb part client.part && may_answer_all part pairs told.answers)) ≡ test → HearsFew client (cond test (answered client pairs by told) (unheard client))
    by_test true holds =
        let rest = and_parts (eqb q client.q) (eqb part client.part && may_answer_all part pairs told.answers) holds in
        let parts = and_parts (eqb part client.part) (may_answer_all part pairs told.answers) rest.1 in
        by_left (left_of_first part pairs told.answers parts.1) (eqb-true part client.part parts.0)
    by_test false holds = unheard_few client

from_few : (client : Client) (from : nodes.Node) (q part : ℕ) (told : Told) → HearsFew client (answers_from client from q part told)
from_few client ToManager q part told = unheard_few client
from_few client (ToClient other) q part told = unheard_few client
from_few client (ToServer server) q part told = answers_few client client.asking (teller.Server server) q part told refl

hears_few : (view : View) (client : Client) (packet : Packet) → Knows view client → RefersBack view.number packet → HearsFew client (client_takes client packet)
hears_few view client packet knows = by_message packet.message
  where
    by_message : (message : Message) → IsNoNewer view.number message → HearsFew client (message_to client packet.from message)
    by_message (Replied seq placed) back = reply_few client client.call seq placed
    by_message (Answered q part told) back = from_few client packet.from q part told
    by_message (Refer q part other) back =
        subst (HearsFew client) (sym (not_referred client client.asking q part other (omega (arith, ap (λ (v : View). v.number) knows)))) (unheard_few client)
    by_message other back = unheard_few client

-- how many retries there are
abbrev pub tries : Event → ℕ
tries (Retry client server) = 1
tries event = 0

server_asks_none : (world : World) (id : ServerId) (server : Server) (sound : IsSound world) → server_at world id ≡ Some server → view_number server.view ≤ world.manager.current.number
server_asks_none world id server sound at = own_old (is_stopped world) world.manager world.servers (chain_of world sound) (id.0 - 1) server at

set_turns : (clients : List Client) (k : ℕ) (old new : Client) → slice_get clients k ≡ Some old → sum_by turns (set clients k new) + turns old ≡ sum_by turns clients + turns new
set_turns clients k old new there =
    let lt = slice_get_within clients k old there in
    omega (arith, sum_by-set turns clients k new old lt, ap turns (get_or_from_slice_get clients k old old there))

module _ (view : View) (n : ℕ) where
  asked_does : (world : World) (event : Event) (after : World) → InCalm view world → AllKnow view world → n ≤ length world.bag → IsRoundStep event → Does world event after → asked_since n after ≤ asked_since n world + tries event
  asked_does world event after calm knows le is (does_nothing e) = omega arith
  asked_does world event after calm knows le is (does_learn who client found) =
      omega (arith, asks_more n world.bag [] le, set_turns world.clients (who.0 - 1) client (learns client world.manager.current) found)
  asked_does world event after calm knows le is does_tell = omega (arith, asks_more n world.bag (announces world.manager.current) le, announced_none world.manager.current)
  asked_does world event after calm knows le is (does_tick who server seat) =
      let m = world.manager.current.number in
      omega (arith, asks_more n world.bag (server_ticks server).sent le, no_asks m (server_ticks server).sent (tick_may m server))
  asked_does world event after calm knows le is (does_retry who to client found) =
      omega (arith, asks_more n world.bag (retries client to) le, tried_few client to client.call)
  asked_does world event after calm knows le is (does_work who workers server seat) =
      let m = world.manager.current.number in
      omega (arith, asks_more n world.bag (server_works server).sent le, no_asks m (server_works server).sent (works_may m server (server_asks_none world who server calm.reached.sound seat.at)))
  asked_does world event after calm knows le is (does_mark k) = omega arith
  asked_does world event after calm knows le is (does_hear k packet who client there to found) =
      let heard = client_takes client packet in
      let few = hears_few view client packet (known_of client found) (refers_back view world k packet calm there) in
      omega (arith, asks_more n world.bag heard.sent le, set_turns world.clients (who.0 - 1) client heard.after found)
    where
      known_of : (client : Client) → client_at world who ≡ Some client → Knows view client
      known_of client found = by_number client found (cases_lt 0 who.0)
        where
          by_number : (client : Client) → client_at world who ≡ Some client → (0 < who.0) ⊎ (who.0 ≤ 0) → Knows view client
          by_number client found (inl low) = knows who client (omega arith) found
          by_number client found (inr none) =
              let one : who.0 - 1 ≡ 1 - 1 = omega arith in
              knows (record { 0 = 1 }) client (omega arith) (ap (slice_get world.clients) (sym one) ∙ found)
  asked_does world event after calm knows le is (does_take k packet who server there to seat) =
      let m = world.manager.current.number in
      omega (arith, asks_more n world.bag (server_takes server packet).sent le, no_asks m (server_takes server packet).sent (takes_may m server packet (server_asks_none world who server calm.reached.sound seat.at)))

  pub asked_steps : (world : World) (events : List Event) → All IsRoundStep events → InCalm view world → AllKnow view world → n ≤ length world.bag → asked_since n (after_all world events) ≤ asked_since n world + sum_by tries events
  asked_steps world [] are calm knows le = omega arith
  asked_steps world (event ∷ events) are calm knows le =
      let after = (step world event).after in
      let one = All-head IsRoundStep event events are in
      let first = asked_does world event after calm knows le one (calm_does view world event calm one) in
      let longer = (step_grows world event).longer in
      let rest = asked_steps after events (All-tail IsRoundStep event events are) (calm_step view world event one calm) (all_know_stable view (InCalm view) (calm_lasts view) world event one calm knows) (omega arith) in
      omega (arith, sum_by-cons tries event events)

-- a round tries no more than once for each client
none_tried : (make : ℕ → Event) → ((k : ℕ) → tries (make k) ≡ 0) → (ks : List ℕ) → sum_by tries (map make ks) ≡ 0
none_tried make none [] = refl
none_tried make none (k ∷ ks) = omega (arith, sum_by-cons tries (make k) (map make ks), none k, none_tried make none ks)

retry_few : (world : World) (id : ClientId) (found : Option Client) → sum_by tries (retry_at world id found) ≤ 1
retry_few world id None = omega arith
retry_few world id (Some client) = by_test (is_busy client && not (is_stopped world (aim client)))
  where
    by_test : (test : Bool) → sum_by tries (cond test (Retry id (aim client) ∷ []) []) ≤ 1
    by_test true = omega arith
    by_test false = omega arith

retries_few : (world : World) (ks : List ℕ) → sum_by tries (flat_map (learnt_retry_of world) ks) ≤ length ks
retries_few world [] = omega arith
retries_few world (k ∷ ks) =
    let rest = retries_few world ks in
    let one = retry_few world (record { 0 = k }) (learnt world (client_at world (record { 0 = k }))) in
    omega (arith, ap (sum_by tries) (flat_map-cons (learnt_retry_of world) k ks), sum_by-append tries (learnt_retry_of world k) (flat_map (learnt_retry_of world) ks))

pub calls_tries : (world : World) → sum_by tries (round_calls world) ≤ length world.clients
calls_tries world =
    let learn = learn_events world in
    let tick = tick_events world in
    let again = learnt_retry_events world in
    omega (arith, sum_by-append tries learn (Tick None ∷ (tick ++ again)), sum_by-cons tries (Tick None) (tick ++ again), sum_by-append tries tick again, none_tried learn_of (λ k. refl) (numbers_to (length world.clients)), none_tried tick_of (λ k. refl) (running world), retries_few world (numbers_to (length world.clients)), length-numbers_to (length world.clients))

pub deliveries_tries : (world : World) → sum_by tries (delivery_events world) ≡ 0
deliveries_tries world = none_tried Deliver (λ k. refl) (filter (is_under_way world) (numbers_to (length world.bag)))

pub works_tries : (world : World) → sum_by tries (work_events world) ≡ 0
works_tries world = none_tried work_of (λ k. refl) (running world)

pub turns_few : (clients : List Client) → sum_by turns clients ≤ length clients
turns_few clients =
    let le = sum_by-le turns 1 clients (all_of (λ client. turns client ≤ 1) (λ client. at_most (is_some client.asking && eqb client.part 1)) clients) in
    omega arith
  where
    at_most : (test : Bool) → one_if test ≤ 1
    at_most true = omega arith
    at_most false = omega arith
