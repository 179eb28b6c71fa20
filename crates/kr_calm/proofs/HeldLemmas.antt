-- What is known to have been fed to the next server stands in its log, in every world of every run.
use Rattle.kr_order.specs.declared.message.Node.TheVariants.{Manager as ToManager, Client as ToClient, Server as ToServer}
use Rattle.kr_order.specs.declared.message.Node as nodes
use Rattle.kr_protocol.specs.Server.{Server, newcomer, founder, next, viewed, are_same, server_takes, server_works, server_ticks}
use Rattle.kr_protocol.specs.Client.{Client}
use Rattle.kr_order.specs.View.{next_of, first_view}
use Rattle.std.proofs.Common.{Bool, List, [], ap, arith, cond, false, inl, inr, length, refl, set, subst, sym, true, ℕ, ◌++◌, ◌+◌, ◌-◌, ◌<◌, ◌∙◌, ◌∷◌, ◌≡◌, ◌≤◌, ◌⊎◌}
use Rattle.std.specs.Prelude.{None, Option, Some, slice_get}
use Rattle.std.proofs.lemmas.Bool.{cases_lt, eqb-true, false≢true}
use Rattle.std.proofs.lemmas.List.{length_push}
use Rattle.std.proofs.lemmas.Option.{none-some, same_Some, slice_get_within}
use Rattle.kr_order.proofs.PrefixLemmas.{IsPrefix-length}
use Rattle.kr_order.specs.declared.ids.ServerId.{ServerId}
use Rattle.kr_order.specs.declared.message.Message.{Message}
use Rattle.kr_order.specs.declared.message.Message.TheVariants.{Joined}
use Rattle.kr_order.specs.declared.message.Node.{Node}
use Rattle.kr_order.specs.declared.message.Packet.{Packet}
use Rattle.kr_protocol.proofs.ListLemmas.{slice_get_at, slice_get_front}
use Rattle.kr_protocol.proofs.NameLemmas.{same_server}
use Rattle.kr_protocol.proofs.NeighbourLemmas.{next_prev, prev_before}
use Rattle.kr_protocol.proofs.TimelineLemmas.{made_by, rises}
use Rattle.kr_protocol.specs.Manager.{may_promote, next_server, promotes, views_of}
use Rattle.kr_protocol.specs.Reaction.{Reaction}
use Rattle.script_lang.specs.declared.script.Event.{Event}
use Rattle.script_lang.specs.declared.script.Event.TheVariants.{Call, Deliver, Join, Learn, Lose, Notice, Query, Retry, Round, Show, Stop, Tick, Work}
use Rattle.kr_world.proofs.steps.BagLemmas.{delivered_sound}
use Rattle.kr_world.proofs.bounds.BoundsLemmas.{IsWithinBounds}
use Rattle.kr_world.proofs.chain.ChainLemmas.{chain_of, named_most, some_one}
use Rattle.kr_world.proofs.steps.ListFacts.{each_after_set}
use Rattle.kr_world.proofs.chain.SeatLemmas.{IsSeated, seated}
use Rattle.kr_world.proofs.sound.SoundLemmas.{takes_within, tick_within, work_within}
use Rattle.kr_world.proofs.steps.StepLemmas.{at_index, may_deliver, may_turn}
use Rattle.kr_world.proofs.chain.ViewLemmas.{made_at}
use Rattle.kr_world.specs.Sound.{HasSoMany, IsSound, IsSoundPacket, IsViewed}
use Rattle.kr_world.specs.Step.{act, arrives, arrives_at_client, arrives_at_manager, arrives_at_server, client_asks, client_calls, client_retries, deliver_refusal, delivers, if_full, learns_view, manager_tells, notices, quiet, refusal_of, shows, step, ticks_at, told_by_server, turn_refusal, unless, works}
use Rattle.kr_order.specs.Marks.{marked}
use Rattle.kr_world.specs.World.{World, client_at, first_world, has_stopped, is_stopped, packet_at, server_at}
use Rattle.kr_world.specs.declared.refusal.Refusal.{Refusal}
use Rattle.kr_calm.proofs.FedLemmas.{Feeds, feeds_anew, feeds_of, feeds_on, feeds_told}

-- no server is known to have been fed more than stands in the log of the one that follows it
abbrev pub IsFedHeld : List Server → Type 0
IsFedHeld servers =
    (i j : ℕ) (server later : Server)
    → slice_get servers i ≡ Some server
    → slice_get servers j ≡ Some later
    → next server ≡ Some later.id
    → server.fed ≤ length later.log

-- so it is of one server, among these
abbrev IsFedBy : List Server → Server → Type 0
IsFedBy servers after = (j : ℕ) (later : Server) → slice_get servers j ≡ Some later → next after ≡ Some later.id → after.fed ≤ length later.log

next_same : (old after : Server) → after.view ≡ old.view → after.id ≡ old.id → next after ≡ next old
next_same old after view id = ap (λ v. viewed None next_of v after.id) view ∙ ap (viewed None next_of old.view) id

same_next : (one : Option ServerId) (other : ServerId) → are_same one (Some other) ≡ true → one ≡ Some other
same_next None other is = absurd (false≢true is)
same_next (Some one) other is = ap (λ s. Some s) (same_server one other (eqb-true one.0 other.0 is))

-- one server goes on
reacts_held : (world : World) (id : ServerId) (old : Server) (reaction : Reaction Server) → IsSeated world id old → IsWithinBounds world old reaction
    → IsFedHeld world.servers → IsFedBy world.servers reaction.after → IsFedHeld (set world.servers (id.0 - 1) reaction.after)
reacts_held world id old reaction seat bounds held fed i j server later at at' follows =
    let servers = world.servers in
    let k = id.0 - 1 in
    let after = reaction.after in
    let now = set servers k after in
    each_after_set (λ m s. (l : ℕ) (t : Server) → slice_get now l ≡ Some t → next s ≡ Some t.id → s.fed ≤ length t.log) servers k after
    (each_after_set (λ l t. next after ≡ Some t.id → after.fed ≤ length t.log) servers k after
    (λ is. bounds.fed)
    (λ l t other there is. fed l t there is))
    (λ m s other there. each_after_set (λ l t. next s ≡ Some t.id → s.fed ≤ length t.log) servers k after
    (λ is. omega (arith, held m k s old there seat.at (is ∙ ap (λ d. Some d) bounds.id), IsPrefix-length old.log after.log bounds.grows))
    (λ l t other' there' is. held m l s t there there' is))
    i server at j later at' follows

-- by what came
taken_fed : (world : World) (id : ServerId) (packet : Packet) (old after : Server) → IsSeated world id old → IsSoundPacket (views_of world.manager) world.servers packet
    → IsFedHeld world.servers → after.id ≡ old.id → Feeds old packet after → IsFedBy world.servers after
taken_fed world id packet old after seat said held same (feeds_on p a view fed) j later there is =
    omega (arith, held (id.0 - 1) j old later seat.at there (sym (next_same old after view same) ∙ is))
taken_fed world id packet old after seat said held same (feeds_told from to done len a told view fed) j later there is =
    let follows : next old ≡ Some later.id = sym (next_same old after view same) ∙ is in
    let before = held (id.0 - 1) j old later seat.at there follows in
    let number = (seat.sound.servers j later there).id in
    let its = ap (λ (d : ServerId). d.0) (same_Some from later.id (sym (some_one (next old) from told) ∙ follows)) in
    omega (arith, by_sender said number its)
  where
    by_sender : HasSoMany world.servers from done len → later.id.0 ≡ j + 1 → from.0 ≡ later.id.0 → len ≤ length later.log
    by_sender so number its =
        let low = so.from_low in
        let there' = subst (λ k. slice_get world.servers k ≡ Some so.sender) (omega arith) so.there in
        subst (λ (s : Server). len ≤ length s.log) (same_Some so.sender later (sym there' ∙ there)) so.len_so_far
taken_fed world id packet old after seat said held same (feeds_anew to view a may adopted fed) j later there is = by_test (are_same (next old) (next after)) refl
  where
    by_test : (test : Bool) → are_same (next old) (next after) ≡ test → after.fed ≤ length later.log
    by_test true alike =
        let before = held (id.0 - 1) j old later seat.at there (same_next (next old) later.id (ap (are_same (next old)) (sym is) ∙ alike)) in
        omega (arith, ap (λ test. cond test old.fed 0) alike)
    by_test false alike = omega (arith, ap (λ test. cond test old.fed 0) alike)

takes_held : (world : World) (id : ServerId) (packet : Packet) (found : Option Server) → server_at world id ≡ found → is_stopped world id ≡ false
    → IsSoundPacket (views_of world.manager) world.servers packet → IsSound world → IsFedHeld world.servers → IsFedHeld (arrives_at_server world id packet found).after.servers
takes_held world id packet None is runs said sound held = held
takes_held world id packet (Some server) is runs said sound held =
    let seat = seated world id server is runs sound in
    let reaction = server_takes server packet in
    let bounds = takes_within world id packet server seat said in
    reacts_held world id server reaction seat bounds held (taken_fed world id packet server reaction.after seat said held bounds.id (feeds_of server packet))

arrives_held : (world : World) (to : nodes.Node) (packet : Packet) → has_stopped world to ≡ false → IsSoundPacket (views_of world.manager) world.servers packet
    → IsSound world → IsFedHeld world.servers → IsFedHeld (arrives world to packet).after.servers
arrives_held world ToManager packet runs said sound held = by_sender packet.from packet.message
  where
    joined_held : (from joiner : ServerId) (test : Bool) → IsFedHeld (cond test (manager_tells world (promotes world.manager joiner)) (quiet world)).after.servers
    joined_held from joiner true = held
    joined_held from joiner false = held

    by_message : (from : ServerId) (message : Message) → IsFedHeld (told_by_server world from message).after.servers
    by_message from (Joined joiner) = joined_held from joiner (may_promote world.manager.current from joiner)
    by_message from other = held

    by_sender : (from : nodes.Node) (message : Message) → IsFedHeld (arrives_at_manager world from message).after.servers
    by_sender ToManager message = held
    by_sender (ToClient client) message = held
    by_sender (ToServer server) message = by_message server message
arrives_held world (ToClient client) packet runs said sound held = by_found (client_at world client)
  where
    by_found : (found : Option Client) → IsFedHeld (arrives_at_client world client packet found).after.servers
    by_found None = held
    by_found (Some c) = held
arrives_held world (ToServer server) packet runs said sound held = takes_held world server packet (server_at world server) refl runs said sound held

delivers_held : (world : World) (k : ℕ) (found : Option Packet) → packet_at world k ≡ found → deliver_refusal world k found ≡ None → IsSound world → IsFedHeld world.servers
    → IsFedHeld (delivers world k found).after.servers
delivers_held world k None is none sound held = held
delivers_held world k (Some packet) is none sound held =
    let may = may_deliver world k packet none in
    let said = at_index (IsSoundPacket (views_of world.manager) world.servers) world.bag (k - 1) packet sound.packets is in
    arrives_held (record world { delivered = marked world.delivered k }) packet.to packet may.runs said (delivered_sound world k sound) held

tick_held : (world : World) (id : ServerId) (found : Option Server) → server_at world id ≡ found → turn_refusal world id found ≡ None → IsSound world → IsFedHeld world.servers
    → IsFedHeld (ticks_at world id found).after.servers
tick_held world id None is none sound held = held
tick_held world id (Some server) is none sound held =
    let seat = seated world id server is (may_turn world id (Some server) (if_full world) none).runs sound in
    reacts_held world id server (server_ticks server) seat (tick_within world id server seat) held (λ j later there follows. held (id.0 - 1) j server later is there follows)

work_held : (world : World) (id : ServerId) (found : Option Server) → server_at world id ≡ found → turn_refusal world id found ≡ None → IsSound world → IsFedHeld world.servers
    → IsFedHeld (works world id found).after.servers
work_held world id None is none sound held = held
work_held world id (Some server) is none sound held =
    let seat = seated world id server is (may_turn world id (Some server) (if_full world) none).runs sound in
    reacts_held world id server (server_works server) seat (work_within world id server seat) held (λ j later there follows. held (id.0 - 1) j server later is there follows)

-- a new server follows none, and none by its own view is followed by it
joins_held : (world : World) → IsSound world → IsFedHeld world.servers → IsFedHeld (world.servers ++ newcomer (next_server world.manager) ∷ [])
joins_held world sound held i j server later at at' follows = by_places (cases_lt i (length world.servers)) (cases_lt j (length world.servers))
  where
    new : Server
    new = newcomer (next_server world.manager)

    longer : length (world.servers ++ new ∷ []) ≡ length world.servers + 1
    longer = length_push world.servers new

    new_at : (k : ℕ) (s : Server) → slice_get (world.servers ++ new ∷ []) k ≡ Some s → length world.servers ≤ k → new ≡ s
    new_at k s is past =
        let within = slice_get_within (world.servers ++ new ∷ []) k s is in
        same_Some new s (sym (slice_get_at world.servers new [] k (omega (arith, longer))) ∙ is)

    named : IsViewed (views_of world.manager) server → later.id.0 ≡ length world.servers + 1 → ⊥
    named (inr blank) number = none-some later.id (sym (ap (λ v. viewed None next_of v server.id) blank.none) ∙ follows)
    named (inl own) number =
        let stopped = is_stopped world in
        let manager = world.manager in
        let its : next_of own.view server.id ≡ Some later.id = sym (ap (λ v. viewed None next_of v server.id) own.adopted) ∙ follows in
        let made = made_by stopped manager sound.evolves own.view in
        let rising = rises stopped manager sound.evolves own.view own.listed in
        let stands = (next_prev own.view made rising server.id later.id its).1 in
        let before = prev_before own.view made rising server.id later.id stands in
        let most = named_most stopped manager world.servers (chain_of world sound) own.view later.id own.listed before.named in
        omega (arith, most.1)

    by_places : (i < length world.servers) ⊎ (length world.servers ≤ i) → (j < length world.servers) ⊎ (length world.servers ≤ j) → server.fed ≤ length later.log
    by_places (inr past) any =
        let same = new_at i server at past in
        subst (λ (s : Server). s.fed ≤ length later.log) same (omega arith)
    by_places (inl lt) (inl lt') =
        held i j server later (slice_get_front world.servers (new ∷ []) i server lt at) (slice_get_front world.servers (new ∷ []) j later lt' at') follows
    by_places (inl lt) (inr past) =
        let same = ap (λ (s : Server). s.id.0) (new_at j later at' past) in
        let made = sound.made in
        absurd (named (sound.servers i server (slice_get_front world.servers (new ∷ []) i server lt at)).own_view (omega arith))

act_held : (world : World) (event : Event) → refusal_of world event ≡ None → IsSound world → IsFedHeld world.servers → IsFedHeld (act world event).after.servers
act_held world (Call client command) none sound held = by_found (client_at world client)
  where
    by_found : (found : Option Client) → IsFedHeld (client_calls world client command found).after.servers
    by_found None = held
    by_found (Some c) = held
act_held world (Query client server pairs) none sound held = by_found (client_at world client)
  where
    by_found : (found : Option Client) → IsFedHeld (client_asks world client server pairs found).after.servers
    by_found None = held
    by_found (Some c) = held
act_held world (Retry client server) none sound held = by_found (client_at world client)
  where
    by_found : (found : Option Client) → IsFedHeld (client_retries world server found).after.servers
    by_found None = held
    by_found (Some c) = held
act_held world (Deliver k) none sound held = delivers_held world k (packet_at world k) refl none sound held
act_held world (Lose k) none sound held = held
act_held world (Tick None) none sound held = held
act_held world (Tick (Some server)) none sound held = tick_held world server (server_at world server) refl none sound held
act_held world (Work server workers) none sound held = work_held world server (server_at world server) refl none sound held
act_held world (Stop server) none sound held = held
act_held world (Notice server) none sound held = by_found (server_at world server)
  where
    by_found : (found : Option Server) → IsFedHeld (notices world found).after.servers
    by_found None = held
    by_found (Some s) = held
act_held world (Show server) none sound held = by_found (server_at world server)
  where
    by_found : (found : Option Server) → IsFedHeld (shows world server found).after.servers
    by_found None = held
    by_found (Some s) = held
act_held world Join none sound held = joins_held world sound held
act_held world Round none sound held = held
act_held world (Learn client) none sound held = by_found (client_at world client)
  where
    by_found : (found : Option Client) → IsFedHeld (learns_view world client found).after.servers
    by_found None = held
    by_found (Some c) = held

-- every step keeps it so
pub step_held : (world : World) (event : Event) → IsSound world → IsFedHeld world.servers → IsFedHeld (step world event).after.servers
step_held world event sound held = by_refusal (refusal_of world event) refl
  where
    by_refusal : (refusal : Option Refusal) → refusal_of world event ≡ refusal → IsFedHeld (unless world refusal (act world event)).after.servers
    by_refusal None none = act_held world event none sound held
    by_refusal (Some why) refused = held

-- and so it is at first
pub first_held : (servers clients : ℕ) → IsFedHeld (first_world servers clients).servers
first_held servers clients i j server later at at' follows =
    let make : ℕ → Server = λ n. founder (first_view servers) (record { 0 = n }) in
    omega (arith, ap (λ (s : Server). s.fed) (made_at make servers i server at).1)
