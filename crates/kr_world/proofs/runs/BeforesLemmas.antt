-- In no step a client is told of more pairs than a query has.
use Rattle.std.proofs.Common.{◌≡◌, ℕ, ◌+◌, ◌-◌, ◌*◌, ◌≤◌, Bool, true, false, cond, ◌&&◌, eqb, ltb, List, [], ◌∷◌, length, refl, arith}
use Rattle.std.specs.Prelude.{Option, None, Some, All, slice_set}
use Rattle.std.proofs.lemmas.List.{length-map}
use Rattle.std.proofs.lemmas.List.Elements.{All-map, All-set, All-head, All-tail}
use Rattle.std.proofs.lemmas.List.Sums.{count_by-le-length, sum_by-cons}
use Rattle.kr_order.specs.declared.ids.ClientId.{ClientId}
use Rattle.kr_order.specs.declared.ids.ServerId.{ServerId}
use Rattle.kr_order.specs.declared.ids.EventId.{EventId}
use Rattle.kr_order.specs.declared.answer.Answer.{Answer}
use Rattle.kr_order.specs.declared.answer.Teller.{Teller}
use Rattle.kr_order.specs.declared.answer.Teller.TheVariants as teller
use Rattle.kr_order.specs.declared.answer.Told.{Told}
use Rattle.kr_order.specs.declared.answer.ToldPart.{ToldPart}
use Rattle.kr_order.specs.declared.history.Command.{Command}
use Rattle.kr_order.specs.declared.history.Placed.{Placed}
use Rattle.kr_order.specs.declared.message.Node as nodes
use Rattle.kr_order.specs.declared.message.Node.TheVariants.{Manager, Client as ToClient, Server as ToServer}
use Rattle.kr_order.specs.declared.message.Message.{Message}
use Rattle.kr_order.specs.declared.message.Message.TheVariants.{Replied, Answered, Refer, Joined}
use Rattle.kr_order.specs.declared.message.Packet.{Packet}
use Rattle.kr_order.specs.declared.view.View.{View}
use Rattle.kr_order.specs.View.{first_view}
use Rattle.kr_order.specs.Numbers.{numbers_to}
use Rattle.kr_protocol.specs.Manager.{may_promote, promotes}
use Rattle.kr_protocol.specs.Server.{Server}
use Rattle.kr_protocol.specs.Cache.{CacheItem, CacheAnswer, looks_up}
use Rattle.kr_protocol.specs.Client.{Client, Hearing, Looked, new_client, unheard, closes, after_reply, is_unsure, may_answer_all, parts_of, unsure_of, remaining, looked_first, looks_all, answered, after_answers, answers_from, turns_to, after_refer, message_to, client_takes, begins, asks, learns}
use Rattle.script_lang.specs.declared.script.Event.{Event}
use Rattle.script_lang.specs.declared.script.Event.TheVariants.{Call, Query, Retry, Deliver, Lose, Tick, Work, Stop, Notice, Show, Join, Round, Learn}
use Rattle.script_lang.specs.Event.{IsEvent}
use Rattle.kr_world.specs.declared.refusal.Refusal.{Refusal}
use Rattle.kr_order.specs.Marks.{marked}
use Rattle.kr_world.specs.World.{World, first_world, client_at, server_at, packet_at}
use Rattle.kr_world.specs.Step.{Part, Outcome, refusal_of, client_hears, client_calls, client_asks, client_retries, arrives_at_client, arrives_at_server, arrives, delivers, works, ticks, ticks_at, shows, act, unless, notices, learns_view, quiet, step, parts_to, manager_tells, joined_at_manager, told_by_server, arrives_at_manager}
use Rattle.kr_world.specs.Round.{steps_of}
use Rattle.kr_world.specs.Run.{Turn, run_from}
use Rattle.kr_world.specs.Counts.{is_before, befores_of, befores_in, BeforesAreFew}
use Rattle.kr_world.proofs.steps.ListFacts.{all_of}
use Rattle.kr_world.proofs.steps.StepLemmas.{at_index}
use Rattle.kr_world.proofs.rounds.RoundEventLemmas.{script_fits}

-- an open query has no more pairs left than a query may have
abbrev AreFew : Option (List (EventId × EventId)) → Type 0
AreFew None = Unit {0}
AreFew (Some pairs) = length pairs ≤ 32

abbrev AskFew : List Client → Type 0
AskFew clients = All (λ client. AreFew client.asking) clients

-- after what a client did, few pairs are left, and it was told of few
record IsFewHeard (hearing : Hearing) : Type 0 where
  left : AreFew hearing.after.asking
  parts : length hearing.parts ≤ 32

unheard_few : (client : Client) → AreFew client.asking → IsFewHeard (unheard client)
unheard_few client few = record { left = few; parts = omega arith }

remaining_few : (pairs : List (EventId × EventId)) → length pairs ≤ 32 → AreFew (remaining pairs)
remaining_few [] few = tt
remaining_few (pair ∷ pairs) few = few

-- of the pairs that are looked up no more are told, and no more are left, than there were
record IsWithin (pairs : List (EventId × EventId)) (looked : Looked) : Type 0 where
  told : length looked.parts ≤ length pairs
  left : length looked.left ≤ length pairs

looked_within : (q : ℕ) (pair : EventId × EventId) (pairs : List (EventId × EventId)) (told : Option CacheAnswer) (rest : Looked) → IsWithin pairs rest → IsWithin (pair ∷ pairs) (looked_first q pair told rest)
looked_within q pair pairs None rest within = record { told = omega (arith, within.told); left = omega (arith, within.left) }
looked_within q pair pairs (Some told) rest within = record { told = omega (arith, within.told); left = omega (arith, within.left) }

looks_within : (q : ℕ) (cache : List CacheItem) (pairs : List (EventId × EventId)) → IsWithin pairs (looks_all q cache pairs)
looks_within q cache [] = record { told = omega arith; left = omega arith }
looks_within q cache (pair ∷ pairs) =
    let look = looks_up cache pair.0.0 pair.1.0 in
    looked_within q pair pairs look.told (looks_all q look.after pairs) (looks_within q look.after pairs)

asks_few : (client : Client) (server : ServerId) (pairs : List (EventId × EventId)) → length pairs ≤ 32 → IsFewHeard (asks client server pairs)
asks_few client server pairs few =
    let looked = looks_all (client.q + 1) client.cache pairs in
    let within = looks_within (client.q + 1) client.cache pairs in
    record { left = remaining_few looked.left (omega (arith, within.left)); parts = omega (arith, within.told) }

-- no more are told of than were left
parts_within : (q entry : ℕ) (by : Teller) (pairs : List (EventId × EventId)) (answers : List Answer) → length (parts_of q entry by pairs answers) ≤ length pairs
parts_within q entry by [] answers = omega arith
parts_within q entry by (pair ∷ pairs) [] = omega arith
parts_within q entry by (pair ∷ pairs) (answer ∷ answers) = by_test (parts_within q entry by pairs answers) (is_unsure answer)
  where
    by_test : length (parts_of q entry by pairs answers) ≤ length pairs → (test : Bool) → length (cond test (parts_of q entry by pairs answers) (record { q = q; a = pair.0; b = pair.1; answer = answer; entry = entry; by = by } ∷ parts_of q entry by pairs answers)) ≤ length (pair ∷ pairs)
    by_test rest true = omega arith
    by_test rest false = omega arith

unsure_within : (pairs : List (EventId × EventId)) (answers : List Answer) → length (unsure_of pairs answers) ≤ length pairs
unsure_within [] answers = omega arith
unsure_within (pair ∷ pairs) [] = omega arith
unsure_within (pair ∷ pairs) (answer ∷ answers) = by_test (unsure_within pairs answers) (is_unsure answer)
  where
    by_test : length (unsure_of pairs answers) ≤ length pairs → (test : Bool) → length (cond test (pair ∷ unsure_of pairs answers) (unsure_of pairs answers)) ≤ length (pair ∷ pairs)
    by_test rest true = omega arith
    by_test rest false = omega arith

answered_few : (client : Client) (pairs : List (EventId × EventId)) (by : Teller) (told : Told) → length pairs ≤ 32 → IsFewHeard (answered client pairs by told)
answered_few client pairs by told few =
    record {
      left = remaining_few (unsure_of pairs told.answers) (omega (arith, unsure_within pairs told.answers));
      parts = omega (arith, parts_within client.q told.entry by pairs told.answers);
    }

reply_few : (client : Client) (call : Option Command) (seq : ℕ) (placed : Placed) → AreFew client.asking → IsFewHeard (after_reply client call seq placed)
reply_few client None seq placed few = unheard_few client few
reply_few client (Some command) seq placed few = by_test (eqb seq client.seq)
  where
    by_test : (test : Bool) → IsFewHeard (cond test (closes client placed) (unheard client))
    by_test true = record { left = few; parts = omega arith }
    by_test false = unheard_few client few

answers_few : (client : Client) (asking : Option (List (EventId × EventId))) (by : Teller) (q part : ℕ) (told : Told) → AreFew client.asking → AreFew asking → IsFewHeard (after_answers client asking by q part told)
answers_few client None by q part told few asked = unheard_few client few
answers_few client (Some pairs) by q part told few asked = by_test (eqb q client.q && (eqb part client.part && may_answer_all part pairs told.answers))
  where
    by_test : (test : Bool) → IsFewHeard (cond test (answered client pairs by told) (unheard client))
    by_test true = answered_few client pairs by told asked
    by_test false = unheard_few client few

from_few : (client : Client) (from : nodes.Node) (q part : ℕ) (told : Told) → AreFew client.asking → IsFewHeard (answers_from client from q part told)
from_few client Manager q part told few = unheard_few client few
from_few client (ToClient other) q part told few = unheard_few client few
from_few client (ToServer server) q part told few = answers_few client client.asking (teller.Server server) q part told few few

refer_few : (client : Client) (asking : Option (List (EventId × EventId))) (q part : ℕ) (view : View) → AreFew client.asking → IsFewHeard (after_refer client asking q part view)
refer_few client None q part view few = unheard_few client few
refer_few client (Some pairs) q part view few = by_test (eqb q client.q && (eqb part client.part && ltb client.known.number view.number))
  where
    by_test : (test : Bool) → IsFewHeard (cond test (turns_to client view) (unheard client))
    by_test true = record { left = few; parts = omega arith }
    by_test false = unheard_few client few

heard_few : (client : Client) (from : nodes.Node) (message : Message) → AreFew client.asking → IsFewHeard (message_to client from message)
heard_few client from (Replied seq placed) few = reply_few client client.call seq placed few
heard_few client from (Answered q part told) few = from_few client from q part told few
heard_few client from (Refer q part view) few = refer_few client client.asking q part view few
heard_few client from other few = unheard_few client few

-- after the step each client has few pairs left, and few were told of
record IsFew (outcome : Outcome) : Type 0 where
  left : AskFew outcome.after.clients
  parts : length outcome.parts ≤ 32

none_told : (outcome : Outcome) → AskFew outcome.after.clients → length outcome.parts ≡ 0 → IsFew outcome
none_told outcome few none = record { left = few; parts = omega (arith, none) }

own_few : (world : World) (id : ClientId) (client : Client) → client_at world id ≡ Some client → AskFew world.clients → AreFew client.asking
own_few world id client is few = at_index (λ c. AreFew c.asking) world.clients (id.0 - 1) client few is

one_few : (clients : List Client) (i : ℕ) (after : Client) → AreFew after.asking → AskFew clients → AskFew (slice_set clients i after)
one_few clients i after left few = All-set (λ c. AreFew c.asking) clients i after left few

-- what a client did is the step
hearing_few : (world : World) (id : ClientId) (hearing : Hearing) → IsFewHeard hearing → AskFew world.clients → IsFew (client_hears world id hearing)
hearing_few world id hearing heard few =
    let part_to : ToldPart → Part = λ part. record { client = id; part = part } in
    let same : length (parts_to id hearing.parts) ≡ length hearing.parts = length-map hearing.parts part_to in
    record {
      left = one_few world.clients (id.0 - 1) hearing.after heard.left few;
      parts = omega (arith, heard.parts, same);
    }

calls_few : (world : World) (id : ClientId) (command : Command) (found : Option Client) → client_at world id ≡ found → AskFew world.clients → IsFew (client_calls world id command found)
calls_few world id command None is few = none_told (quiet world) few refl
calls_few world id command (Some client) is few =
    record { left = one_few world.clients (id.0 - 1) (begins client command).after (own_few world id client is few) few; parts = omega arith }

asks_few_pairs : (world : World) (id : ClientId) (server : ServerId) (pairs : List (EventId × EventId)) (found : Option Client) → length pairs ≤ 32 → AskFew world.clients → IsFew (client_asks world id server pairs found)
asks_few_pairs world id server pairs None asked few = none_told (quiet world) few refl
asks_few_pairs world id server pairs (Some client) asked few = hearing_few world id (asks client server pairs) (asks_few client server pairs asked) few

retries_few : (world : World) (server : ServerId) (found : Option Client) → AskFew world.clients → IsFew (client_retries world server found)
retries_few world server None few = none_told (quiet world) few refl
retries_few world server (Some client) few = record { left = few; parts = omega arith }

hears_few : (world : World) (id : ClientId) (packet : Packet) (found : Option Client) → client_at world id ≡ found → AskFew world.clients → IsFew (arrives_at_client world id packet found)
hears_few world id packet None is few = none_told (quiet world) few refl
hears_few world id packet (Some client) is few =
    hearing_few world id (client_takes client packet) (heard_few client packet.from packet.message (own_few world id client is few)) few

takes_few : (world : World) (id : ServerId) (packet : Packet) (found : Option Server) → AskFew world.clients → IsFew (arrives_at_server world id packet found)
takes_few world id packet None few = record { left = few; parts = omega arith }
takes_few world id packet (Some server) few = record { left = few; parts = omega arith }

joined_few : (world : World) (from joiner : ServerId) → AskFew world.clients → IsFew (joined_at_manager world from joiner)
joined_few world from joiner few = by_test (may_promote world.manager.current from joiner)
  where
    by_test : (test : Bool) → IsFew (cond test (manager_tells world (promotes world.manager joiner)) (quiet world))
    by_test true = record { left = few; parts = omega arith }
    by_test false = record { left = few; parts = omega arith }

told_few : (world : World) (from : ServerId) (message : Message) → AskFew world.clients → IsFew (told_by_server world from message)
told_few world from (Joined joiner) few = joined_few world from joiner few
told_few world from other few = record { left = few; parts = omega arith }

manager_few : (world : World) (from : nodes.Node) (message : Message) → AskFew world.clients → IsFew (arrives_at_manager world from message)
manager_few world Manager message few = record { left = few; parts = omega arith }
manager_few world (ToClient client) message few = record { left = few; parts = omega arith }
manager_few world (ToServer server) message few = told_few world server message few

arrives_few : (world : World) (to : nodes.Node) (packet : Packet) → AskFew world.clients → IsFew (arrives world to packet)
arrives_few world Manager packet few = manager_few world packet.from packet.message few
arrives_few world (ToClient client) packet few = hears_few world client packet (client_at world client) refl few
arrives_few world (ToServer server) packet few = takes_few world server packet (server_at world server) few

delivers_few : (world : World) (k : ℕ) (found : Option Packet) → AskFew world.clients → IsFew (delivers world k found)
delivers_few world k None few = record { left = few; parts = omega arith }
delivers_few world k (Some packet) few = arrives_few (record world { delivered = marked world.delivered k }) packet.to packet few

works_few : (world : World) (id : ServerId) (found : Option Server) → AskFew world.clients → IsFew (works world id found)
works_few world id None few = record { left = few; parts = omega arith }
works_few world id (Some server) few = record { left = few; parts = omega arith }

ticks_few : (world : World) (id : ServerId) (found : Option Server) → AskFew world.clients → IsFew (ticks_at world id found)
ticks_few world id None few = record { left = few; parts = omega arith }
ticks_few world id (Some server) few = record { left = few; parts = omega arith }

turn_few : (world : World) (who : Option ServerId) → AskFew world.clients → IsFew (ticks world who)
turn_few world None few = record { left = few; parts = omega arith }
turn_few world (Some server) few = ticks_few world server (server_at world server) few

shows_few : (world : World) (id : ServerId) (found : Option Server) → AskFew world.clients → IsFew (shows world id found)
shows_few world id None few = record { left = few; parts = omega arith }
shows_few world id (Some server) few = record { left = few; parts = omega arith }

notices_few : (world : World) (found : Option Server) → AskFew world.clients → IsFew (notices world found)
notices_few world None few = record { left = few; parts = omega arith }
notices_few world (Some server) few = record { left = few; parts = omega arith }

learns_few : (world : World) (id : ClientId) (found : Option Client) → client_at world id ≡ found → AskFew world.clients → IsFew (learns_view world id found)
learns_few world id None is few = record { left = few; parts = omega arith }
learns_few world id (Some client) is few =
    let after = learns client world.manager.current in
    hearing_few world id (unheard after) (unheard_few after (own_few world id client is few)) few

act_few : (world : World) (event : Event) → IsEvent event → AskFew world.clients → IsFew (act world event)
act_few world (Call client command) fits few = calls_few world client command (client_at world client) refl few
act_few world (Query client server pairs) fits few = asks_few_pairs world client server pairs (client_at world client) fits.pairs_fit.most few
act_few world (Retry client server) fits few = retries_few world server (client_at world client) few
act_few world (Deliver k) fits few = delivers_few world k (packet_at world k) few
act_few world (Lose k) fits few = record { left = few; parts = omega arith }
act_few world (Tick who) fits few = turn_few world who few
act_few world (Work server workers) fits few = works_few world server (server_at world server) few
act_few world (Stop server) fits few = record { left = few; parts = omega arith }
act_few world (Notice server) fits few = notices_few world (server_at world server) few
act_few world (Show server) fits few = shows_few world server (server_at world server) few
act_few world Join fits few = record { left = few; parts = omega arith }
act_few world Round fits few = record { left = few; parts = omega arith }
act_few world (Learn client) fits few = learns_few world client (client_at world client) refl few

step_few : (world : World) (event : Event) → IsEvent event → AskFew world.clients → IsFew (step world event)
step_few world event fits few = by_refusal (refusal_of world event)
  where
    by_refusal : (refusal : Option Refusal) → IsFew (unless world refusal (act world event))
    by_refusal None = act_few world event fits few
    by_refusal (Some why) = record { left = few; parts = omega arith }

-- no query is open before the first step
none_asked : (servers clients : ℕ) → AskFew (first_world servers clients).clients
none_asked servers clients =
    let make : ℕ → Client = λ m. new_client (first_view servers) (record { 0 = m }) in
    All-map (λ c. AreFew c.asking) make (numbers_to clients) (all_of (λ m. AreFew (make m).asking) (λ m. tt) (numbers_to clients))

run_few : (world : World) (events : List Event) → All IsEvent events → AskFew world.clients → befores_in (run_from world events) ≤ 32 * length (run_from world events)
run_few world [] fit few = omega arith
run_few world (event ∷ events) fit few =
    let outcome = step world event in
    let turn : Turn = record { before = world; event = event; outcome = outcome } in
    let rest = run_from outcome.after events in
    let now = step_few world event (All-head IsEvent event events fit) few in
    let told : befores_of outcome.parts ≤ length outcome.parts = count_by-le-length (λ part. is_before part.part.answer) outcome.parts in
    let later : befores_in rest ≤ 32 * length rest = run_few outcome.after events (All-tail IsEvent event events fit) now.left in
    let both : befores_in (turn ∷ rest) ≡ befores_of outcome.parts + befores_in rest = sum_by-cons (λ (t : Turn). befores_of t.outcome.parts) turn rest in
    omega (arith, now.parts, told, later, both)

pub befores_few : BeforesAreFew
befores_few script fits =
    let first = first_world script.servers script.clients in
    run_few first (steps_of first script.events) (script_fits script fits) (none_asked script.servers script.clients)
