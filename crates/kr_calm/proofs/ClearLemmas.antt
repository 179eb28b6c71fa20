-- After a round no query waits at the tail, all that was under way before its deliveries has been delivered, and few
-- queries are under way.
use Rattle.kr_order.specs.declared.message.Node.TheVariants.{Manager as ToManager, Client as ToClient, Server as ToServer}
use Rattle.kr_order.specs.declared.message.Node as nodes
use Rattle.kr_order.specs.Marks.{marked, is_marked}
use Rattle.kr_world.specs.World.{World, client_at, has_stopped, is_stopped, packet_at, server_at}
use Rattle.kr_protocol.specs.Server.{Server, server_takes, server_works, server_ticks}
use Rattle.kr_protocol.specs.Client.{Client, retries, client_takes, is_busy}
use Rattle.std.proofs.Common.{Bool, List, [], ap, arith, cond, drop, false, inl, inr, length, map, not, refl, set, subst, suc, sym, true, zero, ℕ, ◌&&◌, ◌++◌, ◌-◌, ◌∙◌, ◌∷◌, ◌≡◌, ◌≢◌, ◌≤◌, ◌⊎◌}
use Rattle.std.specs.Prelude.{All, None, Option, Some, filter, slice_get}
use Rattle.std.proofs.lemmas.Bool.{cases_eq}
use Rattle.std.proofs.lemmas.List.{drop_all, get_or-set_same}
use Rattle.std.proofs.lemmas.List.Elements.{All-append, All-cons, All-head, All-map, All-nil, All-tail}
use Rattle.std.proofs.lemmas.List.Sums.{sum_by-append}
use Rattle.std.proofs.lemmas.Option.{none-some, same_Some, slice_get_within}
use Rattle.kr_order.specs.Numbers.{numbers_to}
use Rattle.kr_order.specs.declared.ids.ClientId.{ClientId}
use Rattle.kr_order.specs.declared.ids.ServerId.{ServerId}
use Rattle.kr_order.specs.declared.message.Message.{Message}
use Rattle.kr_order.specs.declared.message.Message.TheVariants.{Joined}
use Rattle.kr_order.specs.declared.message.Node.{Node}
use Rattle.kr_order.specs.declared.message.Packet.{Packet}
use Rattle.kr_order.specs.declared.view.View.{View}
use Rattle.kr_protocol.specs.Manager.{announces, may_promote, promotes}
use Rattle.script_lang.specs.declared.script.Event.{Event}
use Rattle.script_lang.specs.declared.script.Event.TheVariants.{Call, Deliver, Join, Learn, Lose, Notice, Query, Retry, Round, Show, Stop, Tick, Work}
use Rattle.kr_world.proofs.steps.GrowLemmas.{settled_stay, step_grows}
use Rattle.kr_world.proofs.steps.ListFacts.{all_of, set_here, set_other}
use Rattle.kr_world.proofs.rounds.RoundLemmas.{after_all-append}
use Rattle.kr_world.proofs.rounds.RoundShapeLemmas.{all_given, clients_stay, step_shape}
use Rattle.kr_world.specs.Round.{AreSettled, after_all, aim, delivery_events, is_under_way, learn_events, learn_of, learnt, learnt_retry_events, learnt_retry_of, may_take, retry_at, round_calls, round_events, running, tick_events, tick_of, work_events, work_of}
use Rattle.kr_world.specs.Step.{arrives, arrives_at_client, arrives_at_manager, arrives_at_server, deliver_refusal, if_full, manager_tells, quiet, refusal_of, server_reacts, step, told_by_server}
use Rattle.kr_world.specs.declared.refusal.Refusal.TheVariants.{BagFull, Lost, Stopped}
use Rattle.kr_calm.proofs.AskLemmas.{asked_since, asked_steps, asks_in, deliveries_tries, tries, turns_few, works_tries}
use Rattle.kr_calm.proofs.ChainRoundLemmas.{work_in}
use Rattle.kr_calm.proofs.DoesLemmas.{Does, does_hear, does_learn, does_mark, does_nothing, does_retry, does_take, does_tell, does_tick, does_work, taken}
use Rattle.kr_calm.proofs.GoLemmas.{Has}
use Rattle.kr_calm.proofs.InLemmas.{IsIn, in_filter, in_map, in_numbers}
use Rattle.kr_calm.proofs.KnownLemmas.{calls_known}
use Rattle.kr_calm.proofs.MemberLemmas.{IsAt, at_runs, member_there}
use Rattle.kr_calm.proofs.ReachedLemmas.{InCalm, IsRoundStep, calls_are, calm_does, calm_step, calm_steps, deliveries_are, works_are}
use Rattle.kr_calm.proofs.RoomLemmas.{next, room-append}
use Rattle.kr_calm.proofs.TakeLemmas.{delivers_now, room_none, works_now}
use Rattle.kr_calm.proofs.WayLemmas.{Spares, calm_lasts, happens, marks_behind}
use Rattle.kr_calm.specs.Calm.{HaveRoom}

-- one server is set
pub set_has : (id : ServerId) (P : Server → Type 0) (world after : World) (k : ℕ) (old new : Server) → after.servers ≡ set world.servers k new → slice_get world.servers k ≡ Some old → (P old → P new) → Has world id P → Has after id P
set_has id P world after k old new is there goes has = elim (cases_eq (id.0 - 1) k) [
  | inl same ↦
      let its : has.server ≡ old = same_Some has.server old (sym has.at ∙ ap (slice_get world.servers) same ∙ there) in
      let here : slice_get (set world.servers k new) (id.0 - 1) ≡ Some new = ap (slice_get (set world.servers k new)) same ∙ set_here world.servers k new (slice_get_within world.servers k old there) in
      record { server = new; at = ap (λ s. slice_get s (id.0 - 1)) is ∙ here; holds = goes (subst P its has.holds) }
  | inr other ↦
      record { server = has.server; at = ap (λ s. slice_get s (id.0 - 1)) is ∙ set_other world.servers k new (id.0 - 1) has.server other has.at; holds = has.holds }
]

pub has_unmoved : (id : ServerId) (P : Server → Type 0) (world after : World) → after.servers ≡ world.servers → Has world id P → Has after id P
has_unmoved id P world after is has = record { server = has.server; at = ap (λ s. slice_get s (id.0 - 1)) is ∙ has.at; holds = has.holds }

-- an event that delivers nothing
abbrev pub IsStill : Event → Type 0
IsStill (Deliver k) = ⊥
IsStill event = Unit {0}

pub still_spares : (event : Event) (k : ℕ) → IsStill event → Spares event k
still_spares (Deliver j) k still = absurd still
still_spares (Call client command) k still = tt
still_spares (Query client server pairs) k still = tt
still_spares (Retry client server) k still = tt
still_spares (Lose n) k still = tt
still_spares (Tick who) k still = tt
still_spares (Work server workers) k still = tt
still_spares (Stop server) k still = tt
still_spares (Notice server) k still = tt
still_spares (Show server) k still = tt
still_spares Join k still = tt
still_spares Round k still = tt
still_spares (Learn client) k still = tt

each_still : (make : ℕ → Event) → ((k : ℕ) → IsStill (make k)) → (ks : List ℕ) → All IsStill (map make ks)
each_still make is ks = All-map IsStill make ks (all_of (λ k. IsStill (make k)) is ks)

retry_still : (world : World) (id : ClientId) (found : Option Client) → All IsStill (retry_at world id found)
retry_still world id None = All-nil IsStill
retry_still world id (Some client) = by_test (is_busy client && not (is_stopped world (aim client)))
  where
    by_test : (test : Bool) → All IsStill (cond test (Retry id (aim client) ∷ []) [])
    by_test true = All-cons IsStill (Retry id (aim client)) [] tt (All-nil IsStill)
    by_test false = All-nil IsStill

pub calls_still : (world : World) → All IsStill (round_calls world)
calls_still world =
    let learn = learn_events world in
    let tick = tick_events world in
    let again = learnt_retry_events world in
    let retries : All IsStill again = all_given IsStill (learnt_retry_of world) (numbers_to (length world.clients)) (λ k. retry_still world (record { 0 = k }) (learnt world (client_at world (record { 0 = k })))) in
    All-append IsStill learn (Tick None ∷ (tick ++ again)) (each_still learn_of (λ k. tt) (numbers_to (length world.clients))) (All-cons IsStill (Tick None) (tick ++ again) tt (All-append IsStill tick again (each_still tick_of (λ k. tt) (running world)) retries))

pub works_still : (world : World) → All IsStill (work_events world)
works_still world = each_still work_of (λ k. tt) (running world)

-- no step loses a packet
lost_same : (world : World) (event : Event) (after : World) (k : ℕ) → Does world event after → is_marked after.lost k ≡ is_marked world.lost k
lost_same world event after k (does_nothing e) = refl
lost_same world event after k (does_learn who client found) = marks_behind world.lost [] k
lost_same world event after k does_tell = marks_behind world.lost (announces world.manager.current) k
lost_same world event after k (does_tick who server seat) = marks_behind world.lost (server_ticks server).sent k
lost_same world event after k (does_retry who to client found) = marks_behind world.lost (retries client to) k
lost_same world event after k (does_work who workers server seat) = marks_behind world.lost (server_works server).sent k
lost_same world event after k (does_mark j) = refl
lost_same world event after k (does_hear j packet who client there to found) = marks_behind world.lost (client_takes client packet).sent k
lost_same world event after k (does_take j packet who server there to seat) = marks_behind world.lost (server_takes server packet).sent k

-- what arrives leaves marks of deliveries
sent_marks : (marks : List Bool) (packets : List Packet) (k : ℕ) → is_marked marks k ≡ true → is_marked (marks ++ map (λ packet. false) packets) k ≡ true
sent_marks marks packets k is = marks_behind marks packets k ∙ is

arrives_marks : (world : World) (to : nodes.Node) (packet : Packet) (k : ℕ) → is_marked world.delivered k ≡ true → is_marked (arrives world to packet).after.delivered k ≡ true
arrives_marks world ToManager packet k is = by_sender packet.from packet.message
  where
    joined : (from joiner : ServerId) (test : Bool) → is_marked (cond test (manager_tells world (promotes world.manager joiner)) (quiet world)).after.delivered k ≡ true
    joined from joiner true = sent_marks world.delivered (announces (promotes world.manager joiner).current) k is
    joined from joiner false = is

    by_message : (from : ServerId) (message : Message) → is_marked (told_by_server world from message).after.delivered k ≡ true
    by_message from (Joined joiner) = joined from joiner (may_promote world.manager.current from joiner)
    by_message from other = is

    by_sender : (from : nodes.Node) (message : Message) → is_marked (arrives_at_manager world from message).after.delivered k ≡ true
    by_sender ToManager message = is
    by_sender (ToClient client) message = is
    by_sender (ToServer server) message = by_message server message
arrives_marks world (ToClient client) packet k is = by_found (client_at world client)
  where
    by_found : (found : Option Client) → is_marked (arrives_at_client world client packet found).after.delivered k ≡ true
    by_found None = is
    by_found (Some c) = sent_marks world.delivered (client_takes c packet).sent k is
arrives_marks world (ToServer server) packet k is = by_found (server_at world server)
  where
    by_found : (found : Option Server) → is_marked (arrives_at_server world server packet found).after.delivered k ≡ true
    by_found None = is
    by_found (Some s) = sent_marks world.delivered (server_takes s packet).sent k is

-- a packet that is not under way, nor will be
data IsDead (world : World) (k : ℕ) (packet : Packet) : Type 0 where
  dead_delivered : is_marked world.delivered k ≡ true → IsDead world k packet
  dead_lost : is_marked world.lost k ≡ true → IsDead world k packet
  dead_stopped : has_stopped world packet.to ≡ true → IsDead world k packet

dead_rests : (world : World) (k : ℕ) (packet : Packet) → packet_at world k ≡ Some packet → IsDead world k packet → is_under_way world k ≡ false
dead_rests world k packet there (dead_delivered is) = ap (λ b. not b && (not (is_marked world.lost k) && may_take world (packet_at world k))) is
dead_rests world k packet there (dead_lost is) = ap (λ b. not (is_marked world.delivered k) && (not b && may_take world (packet_at world k))) is ∙ never (not (is_marked world.delivered k))
  where
    never : (b : Bool) → b && false ≡ false
    never true = refl
    never false = refl
dead_rests world k packet there (dead_stopped is) = ap (λ found. not (is_marked world.delivered k) && (not (is_marked world.lost k) && may_take world found)) there ∙ ap (λ b. not (is_marked world.delivered k) && (not (is_marked world.lost k) && not b)) is ∙ never (not (is_marked world.delivered k)) (not (is_marked world.lost k))
  where
    never : (a b : Bool) → a && (b && false) ≡ false
    never true true = refl
    never true false = refl
    never false b = refl

-- where the bag has no such packet, the number is past its last
none_past : (bag : List Packet) (i : ℕ) → slice_get bag i ≡ None → length bag ≤ i
none_past [] i is = omega arith
none_past (packet ∷ bag) zero is = absurd (none-some packet (sym is))
none_past (packet ∷ bag) (suc i) is = let short = none_past bag i is in omega arith

module _ (view : View) where
  dead_step : (world : World) (event : Event) (k : ℕ) (packet : Packet) → IsRoundStep event → IsDead world k packet → IsDead (step world event).after k packet
  dead_step world event k packet is (dead_delivered marked) = dead_delivered ((step_grows world event).delivered k marked)
  dead_step world event k packet is (dead_lost marked) = dead_lost ((step_grows world event).lost k marked)
  dead_step world event k packet is (dead_stopped marked) = dead_stopped (by_node packet.to marked)
    where
      by_node : (to : nodes.Node) → has_stopped world to ≡ true → has_stopped (step world event).after to ≡ true
      by_node ToManager stopped = stopped
      by_node (ToClient client) stopped = stopped
      by_node (ToServer server) stopped = (step_grows world event).stopped server.0 stopped

  -- it is there, or dead, and what is there may be delivered
  record IsOpen (world : World) (k : ℕ) (packet : Packet) : Type 0 where
    there : packet_at world k ≡ Some packet
    lost : is_marked world.lost k ≡ false
    runs : has_stopped world packet.to ≡ false

  open_step : (world : World) (event : Event) (k : ℕ) (packet : Packet) → InCalm view world → IsRoundStep event → IsOpen world k packet → IsOpen (step world event).after k packet
  open_step world event k packet calm is opened =
      let after = (step world event).after in
      record {
        there = (step_grows world event).packets k packet opened.there;
        lost = lost_same world event after k (calm_does view world event calm is) ∙ opened.lost;
        runs = by_node packet.to opened.runs;
      }
    where
      by_node : (to : nodes.Node) → has_stopped world to ≡ false → has_stopped (step world event).after to ≡ false
      by_node ToManager runs = runs
      by_node (ToClient client) runs = runs
      by_node (ToServer server) runs = ap (λ marks. is_marked marks server.0) (step_shape world event is.kind).stopped ∙ runs

  -- each packet of the bag before the deliveries is dead after them
  delivered_dead : (world : World) (k : ℕ) (packet : Packet) → InCalm view world → 1 ≤ k → HaveRoom world (delivery_events world) → IsOpen world k packet → is_under_way world k ≡ true
      → IsDead (after_all world (delivery_events world)) k packet
  delivered_dead world k packet calm low room opened under =
      let within = slice_get_within world.bag (k - 1) packet opened.there in
      let is : IsIn (Deliver k) (delivery_events world) = in_map Deliver k (filter (is_under_way world) (numbers_to (length world.bag))) (in_filter (is_under_way world) k (numbers_to (length world.bag)) under (in_numbers k (length world.bag) low (omega arith))) in
      happens view (InCalm view) (calm_lasts view) (λ w. IsOpen w k packet) (λ w. IsDead w k packet)
      (λ w event kind calm opened. open_step w event k packet calm kind opened) (λ w event kind calm dead. dead_step w event k packet kind dead) (Deliver k) brings
      world (delivery_events world) (deliveries_are world calm.reached) room is calm opened
    where
      brings : (w : World) → InCalm view w → IsRoundStep (Deliver k) → refusal_of w (Deliver k) ≢ Some BagFull → IsOpen w k packet → IsDead (step w (Deliver k)).after k packet
      brings w calm kind room opened =
          let first : deliver_refusal w k (Some packet) ≡ if_full w = ap (λ test. cond test (Some Stopped) (cond (is_marked w.lost k) (Some Lost) (if_full w))) opened.runs ∙ ap (λ test. cond test (Some Lost) (if_full w)) opened.lost in
          let all : refusal_of w (Deliver k) ≡ if_full w = ap (deliver_refusal w k) opened.there ∙ first in
          let none : deliver_refusal w k (Some packet) ≡ None = first ∙ room_none w (λ full. room (all ∙ full)) in
          let within = slice_get_within w.bag (k - 1) packet opened.there in
          let marked_now : is_marked (marked w.delivered k) k ≡ true = get_or-set_same w.delivered (k - 1) true false (omega (arith, calm.reached.sound.delivered)) in
          dead_delivered (ap (λ (v : World). is_marked v.delivered k) (delivers_now w k packet opened.there none) ∙ arrives_marks (taken w k) packet.to packet k marked_now)

  dead_or_open : (world : World) (k : ℕ) (packet : Packet) → packet_at world k ≡ Some packet → IsDead world k packet ⊎ (IsOpen world k packet × (is_under_way world k ≡ true))
  dead_or_open world k packet there = by_tests (is_marked world.delivered k) (is_marked world.lost k) (has_stopped world packet.to) refl refl refl
    where
      by_tests : (d l s : Bool) → is_marked world.delivered k ≡ d → is_marked world.lost k ≡ l → has_stopped world packet.to ≡ s → IsDead world k packet ⊎ (IsOpen world k packet × (is_under_way world k ≡ true))
      by_tests true l s delivered lost stopped = inl (dead_delivered delivered)
      by_tests false true s delivered lost stopped = inl (dead_lost lost)
      by_tests false false true delivered lost stopped = inl (dead_stopped stopped)
      by_tests false false false delivered lost stopped =
          inr (
            record { there = there; lost = lost; runs = stopped },
            ap (λ b. not b && (not (is_marked world.lost k) && may_take world (packet_at world k))) delivered ∙ ap (λ b. not b && may_take world (packet_at world k)) lost ∙ ap (may_take world) there ∙ ap not stopped,
          )

  pub deliveries_settle : (world : World) → InCalm view world → HaveRoom world (delivery_events world) → AreSettled (after_all world (delivery_events world)) (length world.bag)
  deliveries_settle world calm room = record {
    within = longer world (delivery_events world);
    none = λ k low high. one k low high;
  }
    where
      longer : (w : World) (events : List Event) → length w.bag ≤ length (after_all w events).bag
      longer w [] = omega arith
      longer w (event ∷ events) = let grown = (step_grows w event).longer in let rest = longer (step w event).after events in omega arith

      still_there : (w : World) (events : List Event) (k : ℕ) (packet : Packet) → packet_at w k ≡ Some packet → packet_at (after_all w events) k ≡ Some packet
      still_there w [] k packet there = there
      still_there w (event ∷ events) k packet there = still_there (step w event).after events k packet ((step_grows w event).packets k packet there)

      still_dead : (w : World) (events : List Event) (k : ℕ) (packet : Packet) → All IsRoundStep events → IsDead w k packet → IsDead (after_all w events) k packet
      still_dead w [] k packet are dead = dead
      still_dead w (event ∷ events) k packet are dead =
          still_dead (step w event).after events k packet (All-tail IsRoundStep event events are) (dead_step w event k packet (All-head IsRoundStep event events are) dead)

      one : (k : ℕ) → 1 ≤ k → k ≤ length world.bag → is_under_way (after_all world (delivery_events world)) k ≡ false
      one k low high = by_found (packet_at world k) refl
        where
          end : World
          end = after_all world (delivery_events world)

          by_case : (packet : Packet) → packet_at world k ≡ Some packet → IsDead world k packet ⊎ (IsOpen world k packet × (is_under_way world k ≡ true)) → IsDead (after_all world (delivery_events world)) k packet
          by_case packet there (inl dead) = still_dead world (delivery_events world) k packet (deliveries_are world calm.reached) dead
          by_case packet there (inr both) = delivered_dead world k packet calm low room both.0 both.1

          by_found : (found : Option Packet) → packet_at world k ≡ found → is_under_way (after_all world (delivery_events world)) k ≡ false
          by_found None is = absurd (omega (arith, none_past world.bag (k - 1) is))
          by_found (Some packet) is =
              dead_rests (after_all world (delivery_events world)) k packet (still_there world (delivery_events world) k packet is) (by_case packet is (dead_or_open world k packet is))

  pub settled_all : (world : World) (events : List Event) (n : ℕ) → AreSettled world n → AreSettled (after_all world events) n
  settled_all world [] n settled = settled
  settled_all world (event ∷ events) n settled = settled_all (step world event).after events n (settled_stay world event n settled)

  module _ (tail : ServerId) where
    abbrev pub WaitsNone : World → Type 0
    WaitsNone world = Has world tail (λ server. server.waiting ≡ [])

    none_does : (world : World) (event : Event) (after : World) → IsStill event → Does world event after → WaitsNone world → WaitsNone after
    none_does world event after still (does_nothing e) has = has
    none_does world event after still (does_learn who client found) has = has_unmoved tail (λ s. s.waiting ≡ []) world after refl has
    none_does world event after still does_tell has = has_unmoved tail (λ s. s.waiting ≡ []) world after refl has
    none_does world event after still (does_tick who old seat) has = set_has tail (λ s. s.waiting ≡ []) world after (who.0 - 1) old (server_ticks old).after refl seat.at (λ none. none) has
    none_does world event after still (does_retry who to client found) has = has_unmoved tail (λ s. s.waiting ≡ []) world after refl has
    none_does world event after still (does_work who workers old seat) has = set_has tail (λ s. s.waiting ≡ []) world after (who.0 - 1) old (server_works old).after refl seat.at (λ none. refl) has
    none_does world event after still (does_mark k) has = absurd still
    none_does world event after still (does_hear k packet who client there to found) has = absurd still
    none_does world event after still (does_take k packet who server there to seat) has = absurd still

    pub none_steps : (world : World) (events : List Event) → All IsRoundStep events → All IsStill events → InCalm view world → WaitsNone world → WaitsNone (after_all world events)
    none_steps world [] are still calm has = has
    none_steps world (event ∷ events) are still calm has =
        let one = All-head IsRoundStep event events are in
        none_steps (step world event).after events (All-tail IsRoundStep event events are) (All-tail IsStill event events still) (calm_step view world event one calm)
        (none_does world event (step world event).after (All-head IsStill event events still) (calm_does view world event calm one) has)

    module _ (i : ℕ) (at : IsAt view i tail) where
      works_clear : (world : World) (events : List Event) → All IsRoundStep events → All IsStill events → HaveRoom world events → IsIn (Work tail 1) events → InCalm view world → WaitsNone (after_all world events)
      works_clear world [] are still room is calm = absurd is
      works_clear world (event ∷ events) are still room is calm =
          by_place (works_clear after events (All-tail IsRoundStep event events are) (All-tail IsStill event events still) room.1) is
        where
          after : World
          after = (step world event).after

          one : IsRoundStep event
          one = All-head IsRoundStep event events are

          by_place : (IsIn (Work tail 1) events → InCalm view (step world event).after → WaitsNone (after_all (step world event).after events)) → (event ≡ Work tail 1) ⊎ IsIn (Work tail 1) events → WaitsNone (after_all (step world event).after events)
          by_place rest (inr there) = rest there (calm_step view world event one calm)
          by_place rest (inl here) =
              let its = member_there view world calm i tail at in
              let room' = subst (λ e. refusal_of world e ≢ Some BagFull) here room.0 in
              let now = works_now world tail 1 its.server its.at (at_runs view world calm i tail at) room' in
              let same : (step world event).after ≡ (server_reacts world tail (server_works its.server)).after = ap (λ e. (step world e).after) here ∙ now in
              let cleared : WaitsNone (server_reacts world tail (server_works its.server)).after = record {
                server = (server_works its.server).after;
                at = set_here world.servers (tail.0 - 1) (server_works its.server).after (slice_get_within world.servers (tail.0 - 1) its.server its.at);
                holds = refl;
              } in
              none_steps (step world event).after events (All-tail IsRoundStep event events are) (All-tail IsStill event events still) (calm_step view world event one calm) (subst WaitsNone (sym same) cleared)

      -- a world in which no query waits at the tail, and few may come
      pub record IsCleared (world : World) : Type 0 where
        pub n : ℕ
        pub settled : AreSettled world n
        pub few : asked_since n world ≤ 16
        pub none : WaitsNone world

      pub round_clears : (world : World) → HaveRoom world (round_events world) → InCalm view world → IsCleared (next world)
      round_clears world room calm =
          let calls = round_calls world in
          let then = after_all world calls in
          let deliver = delivery_events then in
          let work = work_events world in
          let rooms = room-append world calls (deliver ++ work) room in
          let rooms' = room-append then deliver work rooms.1 in
          let calm' = calm_steps view world calls (calls_are world calm.reached) calm in
          let knows = calls_known view world rooms.0 calm in
          let delivered = after_all then deliver in
          let calm'' = calm_steps view then deliver (deliveries_are then calm'.reached) calm' in
          let end = after_all delivered work in
          let same : next world ≡ end = after_all-append world calls (deliver ++ work) ∙ after_all-append then deliver work in
          let n = length then.bag in
          let none : asks_in (drop n then.bag) ≡ 0 = ap asks_in (drop_all n then.bag (omega arith)) in
          let rest = deliver ++ work in
          let are : All IsRoundStep rest = All-append IsRoundStep deliver work (deliveries_are then calm'.reached) (works_are world calm.reached) in
          let count : length then.clients ≡ length world.clients = clients_stay world calls in
          let most = calm.reached.few in
          let few : asked_since n (after_all then rest) ≤ 16 = omega (arith, asked_steps view n then rest are calm' knows (omega arith), sum_by-append tries deliver work, deliveries_tries then, works_tries world, turns_few then.clients, none) in
          let few' : asked_since n end ≤ 16 = subst (λ w. asked_since n w ≤ 16) (after_all-append then deliver work) few in
          let settled = settled_all delivered work n (deliveries_settle then calm' rooms'.0) in
          let waits = works_clear delivered work (works_are world calm.reached) (works_still world) rooms'.1 (work_in view world calm i tail at) calm'' in
          subst IsCleared (sym same) (record { n = n; settled = settled; few = few'; none = waits })
