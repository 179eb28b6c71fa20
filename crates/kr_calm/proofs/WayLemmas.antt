-- A packet that is under way is delivered in a round, and what it brings about stays.
use Rattle.kr_order.specs.declared.message.Node.TheVariants.{Manager as ToManager, Client as ToClient, Server as ToServer}
use Rattle.kr_order.specs.declared.message.Node as nodes
use Rattle.kr_protocol.specs.Client.{learns, retries, client_takes}
use Rattle.kr_protocol.specs.Server.{server_takes, server_works, server_ticks}
use Rattle.kr_protocol.specs.Manager.{announces}
use Rattle.std.proofs.Common.{Bool, List, [], ap, arith, cond, false, inl, inr, length, map, not, refl, subst, suc, sym, true, zero, ℕ, ◌&&◌, ◌++◌, ◌+◌, ◌-◌, ◌<◌, ◌∙◌, ◌∷◌, ◌≡◌, ◌≢◌, ◌≤◌, ◌⊎◌}
use Rattle.std.specs.Prelude.{All, None, Option, Some, filter, slice_get, slice_index_or, slice_set}
use Rattle.std.proofs.lemmas.Bool.{cases_eq}
use Rattle.std.proofs.lemmas.List.{get_or-set_other, get_or_past}
use Rattle.std.proofs.lemmas.List.Elements.{All-head, All-tail}
use Rattle.std.proofs.lemmas.Option.{slice_get_within}
use Rattle.kr_order.specs.Numbers.{numbers_to}
use Rattle.kr_order.specs.declared.message.Node.{Node}
use Rattle.kr_order.specs.declared.message.Packet.{Packet}
use Rattle.kr_order.specs.declared.view.View.{View}
use Rattle.kr_protocol.proofs.ListLemmas.{slice_get_left}
use Rattle.script_lang.specs.declared.script.Event.{Event}
use Rattle.script_lang.specs.declared.script.Event.TheVariants.{Call, Deliver, Join, Learn, Lose, Notice, Query, Retry, Round, Show, Stop, Tick, Work}
use Rattle.kr_world.proofs.rounds.RoundLemmas.{after_all-append}
use Rattle.kr_world.specs.Round.{after_all, delivery_events, is_under_way, may_take, round_calls, round_events, work_events}
use Rattle.kr_world.specs.Step.{act, deliver_refusal, if_full, is_full, refusal_of, step, unless}
use Rattle.kr_order.specs.Marks.{is_marked, marked}
use Rattle.kr_world.specs.World.{World, has_stopped, longest, packet_at, with_packets}
use Rattle.kr_world.specs.declared.refusal.Refusal.{Refusal}
use Rattle.kr_world.specs.declared.refusal.Refusal.TheVariants.{BagFull, Lost, Stopped}
use Rattle.kr_calm.proofs.DoesLemmas.{Does, does_hear, does_learn, does_mark, does_nothing, does_retry, does_take, does_tell, does_tick, does_work, taken}
use Rattle.kr_calm.proofs.InLemmas.{IsIn, at_in, in_filter, in_map, in_numbers}
use Rattle.kr_calm.proofs.ReachedLemmas.{InCalm, IsRoundStep, calls_are, calm_does, calm_step, deliveries_are, works_are}
use Rattle.kr_calm.proofs.RoomLemmas.{next, room-append}
use Rattle.kr_calm.specs.Calm.{HaveRoom}

-- the event delivers no packet of this number
abbrev pub Spares : Event → ℕ → Type 0
Spares (Deliver j) k = j - 1 ≢ k - 1
Spares event k = Unit {0}

-- a packet of this number keeps its marks
pub record Leaves (world after : World) (k : ℕ) : Type 0 where
  pub there : (packet : Packet) → packet_at world k ≡ Some packet → packet_at after k ≡ Some packet
  pub delivered : is_marked after.delivered k ≡ is_marked world.delivered k
  pub lost : is_marked after.lost k ≡ is_marked world.lost k
  pub stopped : after.stopped ≡ world.stopped

leaves_same : (world : World) (k : ℕ) → Leaves world world k
leaves_same world k = record { there = λ packet is. is; delivered = refl; lost = refl; stopped = refl }

-- marks for new packets change no mark
pub marks_behind : (marks : List Bool) (packets : List Packet) (k : ℕ) → is_marked (marks ++ map (λ packet. false) packets) k ≡ is_marked marks k
marks_behind marks packets k = by_place marks (k - 1)
  where
    none : (packets : List Packet) (i : ℕ) → slice_index_or (map (λ packet. false) packets) i false ≡ false
    none [] zero = refl
    none [] (suc i) = refl
    none (packet ∷ packets) zero = refl
    none (packet ∷ packets) (suc i) = none packets i

    by_place : (marks : List Bool) (i : ℕ) → slice_index_or (marks ++ map (λ packet. false) packets) i false ≡ slice_index_or marks i false
    by_place [] zero = none packets zero
    by_place [] (suc i) = none packets (suc i)
    by_place (mark ∷ marks) zero = refl
    by_place (mark ∷ marks) (suc i) = by_place marks i

-- more packets in the bag
more_leaves : (world now : World) (packets : List Packet) (k : ℕ) → now.bag ≡ world.bag → is_marked now.delivered k ≡ is_marked world.delivered k → now.lost ≡ world.lost → now.stopped ≡ world.stopped
    → Leaves world (with_packets now packets) k
more_leaves world now packets k bag delivered lost stopped = record {
  there = λ packet is. slice_get_left now.bag packets (k - 1) packet (ap (λ b. slice_get b (k - 1)) bag ∙ is);
  delivered = marks_behind now.delivered packets k ∙ delivered;
  lost = marks_behind now.lost packets k ∙ ap (λ marks. is_marked marks k) lost;
  stopped = stopped;
}

-- the mark of another packet
other_mark : (marks : List Bool) (j k : ℕ) → j - 1 ≢ k - 1 → is_marked (marked marks j) k ≡ is_marked marks k
other_mark marks j k other = get_or-set_other marks (j - 1) (k - 1) true false (λ same. other (sym same))

pub does_leave : (world : World) (event : Event) (after : World) (k : ℕ) → Does world event after → Spares event k → Leaves world after k
does_leave world event after k (does_nothing e) spares = leaves_same world k
does_leave world event after k (does_learn id client at) spares =
    more_leaves world (record world { clients = slice_set world.clients (id.0 - 1) (learns client world.manager.current) }) [] k refl refl refl refl
does_leave world event after k does_tell spares = more_leaves world (record world { manager = world.manager }) (announces world.manager.current) k refl refl refl refl
does_leave world event after k (does_tick id server seat) spares =
    let servers = slice_set world.servers (id.0 - 1) (server_ticks server).after in
    more_leaves world (record world { servers = servers; history = longest world.history servers }) (server_ticks server).sent k refl refl refl refl
does_leave world event after k (does_retry id to client at) spares = more_leaves world world (retries client to) k refl refl refl refl
does_leave world event after k (does_work id workers server seat) spares =
    let servers = slice_set world.servers (id.0 - 1) (server_works server).after in
    more_leaves world (record world { servers = servers; history = longest world.history servers }) (server_works server).sent k refl refl refl refl
does_leave world event after k (does_mark j) spares =
    record { there = λ packet is. is; delivered = other_mark world.delivered j k spares; lost = refl; stopped = refl }
does_leave world event after k (does_hear j packet id client there to at) spares =
    more_leaves world (record (taken world j) { clients = slice_set world.clients (id.0 - 1) (client_takes client packet).after }) (client_takes client packet).sent k refl (other_mark world.delivered j k spares) refl refl
does_leave world event after k (does_take j packet id server there to seat) spares =
    let servers = slice_set world.servers (id.0 - 1) (server_takes server packet).after in
    more_leaves world (record (taken world j) { servers = servers; history = longest world.history servers }) (server_takes server packet).sent k refl (other_mark world.delivered j k spares) refl refl

-- the packet of this number is under way
pub record IsUnderWay (world : World) (packet : Packet) (k : ℕ) : Type 0 where
  pub low : 1 ≤ k
  pub there : packet_at world k ≡ Some packet
  pub delivered : is_marked world.delivered k ≡ false
  pub lost : is_marked world.lost k ≡ false
  pub runs : has_stopped world packet.to ≡ false

-- the packet is
pub record IsOnItsWay (world : World) (packet : Packet) : Type 0 where
  pub k : ℕ
  pub under : IsUnderWay world packet k

stops_alike : (world after : World) (to : nodes.Node) → after.stopped ≡ world.stopped → has_stopped after to ≡ has_stopped world to
stops_alike world after ToManager same = refl
stops_alike world after (ToClient client) same = refl
stops_alike world after (ToServer server) same = ap (λ marks. is_marked marks server.0) same

pub still_under_way : (world after : World) (packet : Packet) (k : ℕ) → Leaves world after k → IsUnderWay world packet k → IsUnderWay after packet k
still_under_way world after packet k leaves under = record {
  low = under.low;
  there = leaves.there packet under.there;
  delivered = leaves.delivered ∙ under.delivered;
  lost = leaves.lost ∙ under.lost;
  runs = stops_alike world after packet.to leaves.stopped ∙ under.runs;
}

-- what is sent is under way
pub sent_under_way : (world now : World) (packets : List Packet) (packet : Packet) → now.bag ≡ world.bag → length now.delivered ≡ length now.bag → length now.lost ≡ length now.bag → has_stopped now packet.to ≡ false
    → IsIn packet packets → IsOnItsWay (with_packets now packets) packet
sent_under_way world now packets packet bag delivered lost runs is =
    let its = at_in packet packets is in
    let n = length now.bag in
    let k = n + its.0 + 1 in
    let at : slice_get (now.bag ++ packets) (k - 1) ≡ Some packet = ap (λ i. slice_get (now.bag ++ packets) i) (omega arith) ∙ slice_get_behind now.bag packets its.0 ∙ its.1 in
    record {
      k = k;
      under = record {
        low = omega arith;
        there = at;
        delivered = marks_behind now.delivered packets k ∙ past now.delivered k (omega arith);
        lost = marks_behind now.lost packets k ∙ past now.lost k (omega arith);
        runs = stops_alike now (with_packets now packets) packet.to refl ∙ runs;
      };
    }
  where
    past : (marks : List Bool) (k : ℕ) → length marks < k → is_marked marks k ≡ false
    past marks k lt = get_or_past marks (k - 1) false (omega arith)

    slice_get_behind : {X : Type 0} (xs ys : List X) (i : ℕ) → slice_get (xs ++ ys) (length xs + i) ≡ slice_get ys i
    slice_get_behind [] ys i = ap (slice_get ys) (omega arith)
    slice_get_behind (x ∷ xs) ys i =
        let same : length (x ∷ xs) + i ≡ suc (length xs + i) = omega arith in
        ap (slice_get (x ∷ (xs ++ ys))) same ∙ slice_get_behind xs ys i

-- a packet of this number is, and is one of these
pub record IsComing (Good : Packet → World → Type 0) (world : World) (k : ℕ) : Type 0 where
  pub packet : Packet
  pub good : Good packet world
  pub under : IsUnderWay world packet k

-- what holds of each world of a round from some point on
pub record Lasts (view : View) (I : World → Type 0) : Type 0 where
  pub calm : (world : World) → I world → InCalm view world
  pub keeps : (world : World) (event : Event) → IsRoundStep event → I world → I (step world event).after

pub calm_lasts : (view : View) → Lasts view (InCalm view)
calm_lasts view = record { calm = λ world calm. calm; keeps = λ world event is calm. calm_step view world event is calm }

module _ (view : View) (I : World → Type 0) (lasts : Lasts view I) where
  -- each step of these rounds keeps it
  abbrev pub Stable : (World → Type 0) → Type 0
  Stable P = (world : World) (event : Event) → IsRoundStep event → I world → P world → P (step world event).after

  pub lasts_all : (world : World) (events : List Event) → All IsRoundStep events → I world → I (after_all world events)
  lasts_all world [] are is = is
  lasts_all world (event ∷ events) are is =
      lasts_all (step world event).after events (All-tail IsRoundStep event events are) (lasts.keeps world event (All-head IsRoundStep event events are) is)

  pub stays_all : (P : World → Type 0) → Stable P → (world : World) (events : List Event) → All IsRoundStep events → I world → P world → P (after_all world events)
  stays_all P stable world [] are is holds = holds
  stays_all P stable world (event ∷ events) are is holds =
      let one = All-head IsRoundStep event events are in
      stays_all P stable (step world event).after events (All-tail IsRoundStep event events are) (lasts.keeps world event one is) (stable world event one is holds)

  -- one of these events, which is not refused, brings it about
  pub happens : (A B : World → Type 0) → Stable A → Stable B → (event : Event)
      → ((world : World) → I world → IsRoundStep event → refusal_of world event ≢ Some BagFull → A world → B (step world event).after)
      → (world : World) (events : List Event) → All IsRoundStep events → HaveRoom world events → IsIn event events → I world → A world → B (after_all world events)
  happens A B stable stable' event brings world [] are room is inv holds = absurd is
  happens A B stable stable' event brings world (first ∷ events) are room is inv holds =
      by_place (happens A B stable stable' event brings (step world first).after events (All-tail IsRoundStep first events are) room.1) is
    where
      after : World
      after = (step world first).after

      one : IsRoundStep first
      one = All-head IsRoundStep first events are

      by_place : (IsIn event events → I after → A after → B (after_all after events)) → (first ≡ event) ⊎ IsIn event events → B (after_all after events)
      by_place rest (inl here) =
          let its : IsRoundStep event = subst IsRoundStep here one in
          let room' = subst (λ e. refusal_of world e ≢ Some BagFull) here room.0 in
          let now : B after = subst (λ e. B (step world e).after) (sym here) (brings world inv its room' holds) in
          stays_all B stable' after events (All-tail IsRoundStep first events are) (lasts.keeps world first one inv) now
      by_place rest (inr there) = rest there (lasts.keeps world first one inv) (stable world first one inv holds)

  -- it holds, or a packet is under way that will bring it about
  abbrev pub Comes : (World → Type 0) → (Packet → World → Type 0) → World → Type 0
  Comes P Good world = P world ⊎ ((k : ℕ) × IsComing Good world k)

  abbrev ComesBy : (World → Type 0) → (Packet → World → Type 0) → ℕ → World → Type 0
  ComesBy P Good k world = P world ⊎ IsComing Good world k

  -- delivering such a packet brings it about; a step leaves one such
  pub record IsBrought (P : World → Type 0) (Good : Packet → World → Type 0) : Type 0 where
    pub stable : Stable P
    pub stays : (packet : Packet) → Stable (Good packet)
    pub brings : (world : World) (k : ℕ) (packet : Packet) → I world → Good packet world → packet_at world k ≡ Some packet → IsRoundStep (Deliver k) → deliver_refusal world k (Some packet) ≡ None → P (step world (Deliver k)).after

  module _ (P : World → Type 0) (Good : Packet → World → Type 0) (brought : IsBrought P Good) where
    -- so it holds, or is under way still, after each step
    delivered_so : (k : ℕ) (world : World) → I world → IsRoundStep (Deliver k) → IsComing Good world k → ComesBy P Good k (step world (Deliver k)).after
    delivered_so k world inv is coming = by_refusal (refusal_of world (Deliver k)) refl
      where
        by_refusal : (refusal : Option Refusal) → refusal_of world (Deliver k) ≡ refusal → ComesBy P Good k (step world (Deliver k)).after
        by_refusal None none = inl (brought.brings world k coming.packet inv coming.good coming.under.there is (ap (deliver_refusal world k) (sym coming.under.there) ∙ none))
        by_refusal (Some why) refused = inr (subst (λ refusal. IsComing Good (unless world refusal (act world (Deliver k))).after k) (sym refused) coming)

    by_stable : (k : ℕ) → Stable (ComesBy P Good k)
    by_stable k world event is inv (inl holds) = inl (brought.stable world event is inv holds)
    by_stable k world event is inv (inr coming) = by_event event is
      where
        spared : (event : Event) → IsRoundStep event → Spares event k → ComesBy P Good k (step world event).after
        spared event is spares =
            let after = (step world event).after in
            inr (record {
              packet = coming.packet;
              good = brought.stays coming.packet world event is inv coming.good;
              under = still_under_way world after coming.packet k (does_leave world event after k (calm_does view world event (lasts.calm world inv) is) spares) coming.under;
            })

        by_event : (event : Event) → IsRoundStep event → ComesBy P Good k (step world event).after
        by_event (Deliver j) is = elim (cases_eq (j - 1) (k - 1)) [
          | inl same ↦
              let low = is.fit.low in
              let low' = coming.under.low in
              let its : j ≡ k = omega arith in
              subst (λ n. IsRoundStep (Deliver n) → ComesBy P Good k (step world (Deliver n)).after) (sym its) (λ is'. delivered_so k world inv is' coming) is
          | inr other ↦ spared (Deliver j) is other
        ]
        by_event (Call client command) is = spared (Call client command) is tt
        by_event (Query client server pairs) is = spared (Query client server pairs) is tt
        by_event (Retry client server) is = spared (Retry client server) is tt
        by_event (Lose n) is = spared (Lose n) is tt
        by_event (Tick who) is = spared (Tick who) is tt
        by_event (Work server workers) is = spared (Work server workers) is tt
        by_event (Stop server) is = spared (Stop server) is tt
        by_event (Notice server) is = spared (Notice server) is tt
        by_event (Show server) is = spared (Show server) is tt
        by_event Join is = spared Join is tt
        by_event Round is = spared Round is tt
        by_event (Learn client) is = spared (Learn client) is tt

    pub comes_stable : Stable (Comes P Good)
    comes_stable world event is inv (inl holds) = inl (brought.stable world event is inv holds)
    comes_stable world event is inv (inr coming) = by_case (by_stable coming.0 world event is inv (inr coming.1))
      where
        by_case : ComesBy P Good coming.0 (step world event).after → Comes P Good (step world event).after
        by_case (inl holds) = inl holds
        by_case (inr still) = inr (coming.0, still)

    -- a delivery that finds room is not refused
    not_refused : (world : World) (packet : Packet) (k : ℕ) → IsUnderWay world packet k → refusal_of world (Deliver k) ≢ Some BagFull → deliver_refusal world k (Some packet) ≡ None
    not_refused world packet k under room =
        let first : deliver_refusal world k (Some packet) ≡ cond (is_marked world.lost k) (Some Lost) (if_full world) = ap (λ test. cond test (Some Stopped) (cond (is_marked world.lost k) (Some Lost) (if_full world))) under.runs in
        let second : cond (is_marked world.lost k) (Some Lost) (if_full world) ≡ if_full world = ap (λ test. cond test (Some Lost) (if_full world)) under.lost in
        let all : refusal_of world (Deliver k) ≡ if_full world = ap (deliver_refusal world k) under.there ∙ first ∙ second in
        first ∙ second ∙ by_full (is_full world) refl all
      where
        by_full : (full : Bool) → is_full world ≡ full → refusal_of world (Deliver k) ≡ if_full world → if_full world ≡ None
        by_full true is all = absurd (room (all ∙ ap (λ test. cond test (Some BagFull) None) is))
        by_full false is all = ap (λ test. cond test (Some BagFull) None) is

    in_bag : (world : World) (packet : Packet) (k : ℕ) → IsUnderWay world packet k → IsIn (Deliver k) (delivery_events world)
    in_bag world packet k under =
        let within = slice_get_within world.bag (k - 1) packet under.there in
        let low = under.low in
        let under_way : is_under_way world k ≡ true = by_marks (is_marked world.delivered k) (is_marked world.lost k) (packet_at world k) under.delivered under.lost under.there under.runs in
        in_map Deliver k (filter (is_under_way world) (numbers_to (length world.bag))) (in_filter (is_under_way world) k (numbers_to (length world.bag)) under_way (in_numbers k (length world.bag) low (omega arith)))
      where
        by_marks : (d l : Bool) (found : Option Packet) → d ≡ false → l ≡ false → found ≡ Some packet → has_stopped world packet.to ≡ false → not d && (not l && may_take world found) ≡ true
        by_marks d l found delivered lost there runs =
            ap (λ b. not b && (not l && may_take world found)) delivered ∙ ap (λ b. not b && may_take world found) lost ∙ ap (may_take world) there ∙ ap not runs

    -- what is under way before the deliveries has brought it about after them
    pub arrives_in : (world : World) → HaveRoom world (delivery_events world) → I world → Comes P Good world → P (after_all world (delivery_events world))
    arrives_in world room inv (inl holds) =
        stays_all P brought.stable world (delivery_events world) (deliveries_are world (lasts.calm world inv).reached) inv holds
    arrives_in world room inv (inr coming) =
        let k = coming.0 in
        happens (ComesBy P Good k) P (by_stable k) brought.stable (Deliver k)
        (λ now inv is room comes. now_brought k now inv is room comes)
        world (delivery_events world) (deliveries_are world (lasts.calm world inv).reached) room (in_bag world coming.1.packet k coming.1.under) inv (inr coming.1)
      where
        now_brought : (k : ℕ) (now : World) → I now → IsRoundStep (Deliver k) → refusal_of now (Deliver k) ≢ Some BagFull → ComesBy P Good k now → P (step now (Deliver k)).after
        now_brought k now inv is room (inl holds) = brought.stable now (Deliver k) is inv holds
        now_brought k now inv is room (inr still) = brought.brings now k still.packet inv still.good still.under.there is (not_refused now still.packet k still.under room)

    -- a round in which one of the first steps sends such a packet
    pub round_brings : (A : World → Type 0) → Stable A → (event : Event)
        → ((world : World) → I world → IsRoundStep event → refusal_of world event ≢ Some BagFull → A world → Comes P Good (step world event).after)
        → (world : World) → HaveRoom world (round_events world) → IsIn event (round_calls world) → I world → A world → P (next world)
    round_brings A stable event sends world room is inv holds =
        let calls = round_calls world in
        let then = after_all world calls in
        let deliver = delivery_events then in
        let work = work_events world in
        let reached = (lasts.calm world inv).reached in
        let rooms = room-append world calls (deliver ++ work) room in
        let rooms' = room-append then deliver work rooms.1 in
        let all_calls = calls_are world reached in
        let inv' = lasts_all world calls all_calls inv in
        let coming : Comes P Good then = happens A (Comes P Good) stable comes_stable event sends world calls all_calls rooms.0 is inv holds in
        let delivered = after_all then deliver in
        let came : P delivered = arrives_in then rooms'.0 inv' coming in
        let inv'' = lasts_all then deliver (deliveries_are then (lasts.calm then inv').reached) inv' in
        let end : P (after_all delivered work) = stays_all P brought.stable delivered work (works_are world reached) inv'' came in
        subst P (sym (after_all-append world calls (deliver ++ work) ∙ after_all-append then deliver work)) end

    -- and a round in which one is under way from the first
    pub round_arrives : (world : World) → HaveRoom world (round_events world) → I world → Comes P Good world → P (next world)
    round_arrives world room inv coming =
        let calls = round_calls world in
        let then = after_all world calls in
        let deliver = delivery_events then in
        let work = work_events world in
        let reached = (lasts.calm world inv).reached in
        let rooms = room-append world calls (deliver ++ work) room in
        let rooms' = room-append then deliver work rooms.1 in
        let all_calls = calls_are world reached in
        let inv' = lasts_all world calls all_calls inv in
        let still : Comes P Good then = stays_all (Comes P Good) comes_stable world calls all_calls inv coming in
        let delivered = after_all then deliver in
        let came : P delivered = arrives_in then rooms'.0 inv' still in
        let inv'' = lasts_all then deliver (deliveries_are then (lasts.calm then inv').reached) inv' in
        let end : P (after_all delivered work) = stays_all P brought.stable delivered work (works_are world reached) inv'' came in
        subst P (sym (after_all-append world calls (deliver ++ work) ∙ after_all-append then deliver work)) end

-- one of these events, of which none delivers, brings it about, and none of the others takes it back
module _ (view : View) (I : World → Type 0) (lasts : Lasts view I) (IsMild : Event → Type 0) where
  abbrev pub StaysMild : (World → Type 0) → Type 0
  StaysMild P = (world : World) (event : Event) → IsRoundStep event → IsMild event → I world → P world → P (step world event).after

  pub stays_mild : (P : World → Type 0) → StaysMild P → (world : World) (events : List Event) → All IsRoundStep events → All IsMild events → I world → P world → P (after_all world events)
  stays_mild P stable world [] are mild is holds = holds
  stays_mild P stable world (event ∷ events) are mild is holds =
      let one = All-head IsRoundStep event events are in
      stays_mild P stable (step world event).after events (All-tail IsRoundStep event events are) (All-tail IsMild event events mild) (lasts.keeps world event one is) (stable world event one (All-head IsMild event events mild) is holds)

  pub happens_mild : (A B : World → Type 0) → Stable view I lasts A → StaysMild B → (event : Event)
      → ((world : World) → I world → IsRoundStep event → IsMild event → refusal_of world event ≢ Some BagFull → A world → B (step world event).after)
      → (world : World) (events : List Event) → All IsRoundStep events → All IsMild events → HaveRoom world events → IsIn event events → I world → A world → B (after_all world events)
  happens_mild A B stable stable' event brings world [] are mild room is inv holds = absurd is
  happens_mild A B stable stable' event brings world (first ∷ events) are mild room is inv holds =
      by_place (happens_mild A B stable stable' event brings (step world first).after events (All-tail IsRoundStep first events are) (All-tail IsMild first events mild) room.1) is
    where
      after : World
      after = (step world first).after

      one : IsRoundStep first
      one = All-head IsRoundStep first events are

      by_place : (IsIn event events → I after → A after → B (after_all after events)) → (first ≡ event) ⊎ IsIn event events → B (after_all after events)
      by_place rest (inl here) =
          let its : IsRoundStep event = subst IsRoundStep here one in
          let mild' : IsMild event = subst IsMild here (All-head IsMild first events mild) in
          let room' = subst (λ e. refusal_of world e ≢ Some BagFull) here room.0 in
          let now : B after = subst (λ e. B (step world e).after) (sym here) (brings world inv its mild' room' holds) in
          stays_mild B stable' after events (All-tail IsRoundStep first events are) (All-tail IsMild first events mild) (lasts.keeps world first one inv) now
      by_place rest (inr there) = rest there (lasts.keeps world first one inv) (stable world first one inv holds)
