-- What the steps of a round leave as it is: how many clients and servers there are, and which servers have stopped.
use Rattle.std.proofs.Common.{◌≡◌, ℕ, ◌-◌, ◌∙◌, Bool, true, false, cond, not, ◌&&◌, List, [], ◌∷◌, ◌++◌, length, map, refl, sym, subst}
use Rattle.std.specs.Prelude.{Option, None, Some, All, filter, flat_map}
use Rattle.std.proofs.lemmas.List.Concat.{flat_map-cons}
use Rattle.std.proofs.lemmas.List.{length-set}
use Rattle.std.proofs.lemmas.List.Elements.{All-nil, All-cons, All-append, All-map, All-head, All-tail, All-weaker}
use Rattle.kr_order.specs.declared.ids.ClientId.{ClientId}
use Rattle.kr_order.specs.declared.ids.ServerId.{ServerId}
use Rattle.kr_order.specs.declared.ids.EventId.{EventId}
use Rattle.kr_order.specs.declared.history.Command.{Command}
use Rattle.kr_order.specs.declared.message.Node as nodes
use Rattle.kr_order.specs.declared.message.Node.TheVariants.{Manager, Client as ToClient, Server as ToServer}
use Rattle.kr_order.specs.declared.message.Message.{Message}
use Rattle.kr_order.specs.declared.message.Message.TheVariants.{Joined}
use Rattle.kr_order.specs.declared.message.Packet.{Packet}
use Rattle.kr_protocol.specs.Manager.{may_promote, promotes}
use Rattle.kr_protocol.specs.Reaction.{Reaction}
use Rattle.kr_protocol.specs.Server.{Server, server_takes, server_works, server_ticks}
use Rattle.kr_protocol.specs.Client.{Client, is_busy, begins, asks, learns, client_takes}
use Rattle.script_lang.specs.declared.script.Event.{Event}
use Rattle.script_lang.specs.declared.script.Event.TheVariants.{Call, Query, Retry, Deliver, Lose, Tick, Work, Stop, Notice, Show, Join, Round, Learn}
use Rattle.kr_order.specs.Numbers.{numbers_to}
use Rattle.kr_world.specs.declared.refusal.Refusal.{Refusal}
use Rattle.kr_order.specs.Marks.{marked}
use Rattle.kr_world.specs.World.{World, client_at, server_at, packet_at, is_stopped}
use Rattle.kr_world.specs.Step.{refusal_of, client_calls, client_asks, client_retries, server_reacts, arrives_at_client, arrives_at_server, arrives, delivers, works, ticks, ticks_at, shows, act, unless, step, notices, learns_view, quiet, manager_tells, joined_at_manager, told_by_server, arrives_at_manager}
use Rattle.kr_world.specs.Round.{after_all, learn_of, tick_of, work_of, aim, retry_at, retry_of, learnt, learnt_retry_of, learn_events, tick_events, retry_events, learnt_retry_events, delivery_events, work_events, running, round_calls, round_events, is_under_way, IsOfRound}
use Rattle.kr_world.proofs.steps.ListFacts.{all_of}
use Rattle.kr_world.proofs.steps.CountLemmas.{AsksNothing}

-- as many clients and servers, of which the same have stopped
pub record HasShapeOf (before after : World) : Type 0 where
  pub clients : length after.clients ≡ length before.clients
  pub servers : length after.servers ≡ length before.servers
  pub stopped : after.stopped ≡ before.stopped

same_shape : (world : World) → HasShapeOf world world
same_shape world = record { clients = refl; servers = refl; stopped = refl }

pub shape-trans : (first mid last : World) → HasShapeOf first mid → HasShapeOf mid last → HasShapeOf first last
shape-trans first mid last one two =
    record { clients = two.clients ∙ one.clients; servers = two.servers ∙ one.servers; stopped = two.stopped ∙ one.stopped }

-- a server reacts
reacts_shape : (world : World) (id : ServerId) (reaction : Reaction Server) → HasShapeOf world (server_reacts world id reaction).after
reacts_shape world id reaction =
    record { clients = refl; servers = length-set world.servers (id.0 - 1) reaction.after; stopped = refl }

retries_shape : (world : World) (server : ServerId) (found : Option Client) → HasShapeOf world (client_retries world server found).after
retries_shape world server None = same_shape world
retries_shape world server (Some client) = record { clients = refl; servers = refl; stopped = refl }

tells_shape : (world : World) → HasShapeOf world (manager_tells world world.manager).after
tells_shape world = record { clients = refl; servers = refl; stopped = refl }

joined_shape : (world : World) (from joiner : ServerId) → HasShapeOf world (joined_at_manager world from joiner).after
joined_shape world from joiner = by_test (may_promote world.manager.current from joiner)
  where
    by_test : (test : Bool) → HasShapeOf world (cond test (manager_tells world (promotes world.manager joiner)) (quiet world)).after
    by_test true = record { clients = refl; servers = refl; stopped = refl }
    by_test false = same_shape world

told_shape : (world : World) (from : ServerId) (message : Message) → HasShapeOf world (told_by_server world from message).after
told_shape world from (Joined joiner) = joined_shape world from joiner
told_shape world from other = same_shape world

manager_shape : (world : World) (from : nodes.Node) (message : Message) → HasShapeOf world (arrives_at_manager world from message).after
manager_shape world Manager message = same_shape world
manager_shape world (ToClient client) message = same_shape world
manager_shape world (ToServer server) message = told_shape world server message

hears_shape : (world : World) (id : ClientId) (packet : Packet) (found : Option Client) → HasShapeOf world (arrives_at_client world id packet found).after
hears_shape world id packet None = same_shape world
hears_shape world id packet (Some client) =
    record { clients = length-set world.clients (id.0 - 1) (client_takes client packet).after; servers = refl; stopped = refl }

takes_shape : (world : World) (id : ServerId) (packet : Packet) (found : Option Server) → HasShapeOf world (arrives_at_server world id packet found).after
takes_shape world id packet None = same_shape world
takes_shape world id packet (Some server) = reacts_shape world id (server_takes server packet)

arrives_shape : (world : World) (to : nodes.Node) (packet : Packet) → HasShapeOf world (arrives world to packet).after
arrives_shape world Manager packet = manager_shape world packet.from packet.message
arrives_shape world (ToClient client) packet = hears_shape world client packet (client_at world client)
arrives_shape world (ToServer server) packet = takes_shape world server packet (server_at world server)

delivers_shape : (world : World) (k : ℕ) (found : Option Packet) → HasShapeOf world (delivers world k found).after
delivers_shape world k None = same_shape world
delivers_shape world k (Some packet) =
    let now = record world { delivered = marked world.delivered k } in
    let on = arrives_shape now packet.to packet in
    record { clients = on.clients; servers = on.servers; stopped = on.stopped }

works_shape : (world : World) (id : ServerId) (found : Option Server) → HasShapeOf world (works world id found).after
works_shape world id None = same_shape world
works_shape world id (Some server) = reacts_shape world id (server_works server)

tick_shape : (world : World) (id : ServerId) (found : Option Server) → HasShapeOf world (ticks_at world id found).after
tick_shape world id None = same_shape world
tick_shape world id (Some server) = reacts_shape world id (server_ticks server)

ticks_shape : (world : World) (who : Option ServerId) → HasShapeOf world (ticks world who).after
ticks_shape world None = tells_shape world
ticks_shape world (Some server) = tick_shape world server (server_at world server)

learns_shape : (world : World) (id : ClientId) (found : Option Client) → HasShapeOf world (learns_view world id found).after
learns_shape world id None = same_shape world
learns_shape world id (Some client) =
    record { clients = length-set world.clients (id.0 - 1) (learns client world.manager.current); servers = refl; stopped = refl }

act_shape : (world : World) (event : Event) → IsOfRound event → HasShapeOf world (act world event).after
act_shape world (Retry client server) _ = retries_shape world server (client_at world client)
act_shape world (Deliver k) _ = delivers_shape world k (packet_at world k)
act_shape world (Tick who) _ = ticks_shape world who
act_shape world (Work server workers) _ = works_shape world server (server_at world server)
act_shape world (Learn client) _ = learns_shape world client (client_at world client)
act_shape world event never = absurd never

pub step_shape : (world : World) (event : Event) → IsOfRound event → HasShapeOf world (step world event).after
step_shape world event is = by_refusal (refusal_of world event)
  where
    by_refusal : (refusal : Option Refusal) → HasShapeOf world (unless world refusal (act world event)).after
    by_refusal None = act_shape world event is
    by_refusal (Some why) = same_shape world

-- such steps leave the shape as it is
pub shape_stays : (world : World) (events : List Event) → All IsOfRound events → HasShapeOf world (after_all world events)
shape_stays world [] all = same_shape world
shape_stays world (event ∷ events) all =
    let next = (step world event).after in
    shape-trans world next (after_all next events) (step_shape world event (All-head IsOfRound event events all)) (shape_stays next events (All-tail IsOfRound event events all))

-- no step at all changes how many clients there are
calls_clients : (world : World) (id : ClientId) (command : Command) (found : Option Client) → length (client_calls world id command found).after.clients ≡ length world.clients
calls_clients world id command None = refl
calls_clients world id command (Some client) = length-set world.clients (id.0 - 1) (begins client command).after

asks_clients : (world : World) (id : ClientId) (server : ServerId) (pairs : List (EventId × EventId)) (found : Option Client) → length (client_asks world id server pairs found).after.clients ≡ length world.clients
asks_clients world id server pairs None = refl
asks_clients world id server pairs (Some client) = length-set world.clients (id.0 - 1) (asks client server pairs).after

notices_clients : (world : World) (found : Option Server) → length (notices world found).after.clients ≡ length world.clients
notices_clients world None = refl
notices_clients world (Some server) = refl

shows_clients : (world : World) (id : ServerId) (found : Option Server) → length (shows world id found).after.clients ≡ length world.clients
shows_clients world id None = refl
shows_clients world id (Some server) = refl

act_clients : (world : World) (event : Event) → length (act world event).after.clients ≡ length world.clients
act_clients world (Call client command) = calls_clients world client command (client_at world client)
act_clients world (Query client server pairs) = asks_clients world client server pairs (client_at world client)
act_clients world (Lose k) = refl
act_clients world (Stop server) = refl
act_clients world (Notice server) = notices_clients world (server_at world server)
act_clients world (Show server) = shows_clients world server (server_at world server)
act_clients world Join = refl
act_clients world Round = refl
act_clients world event = (act_shape world event tt).clients

step_clients : (world : World) (event : Event) → length (step world event).after.clients ≡ length world.clients
step_clients world event = by_refusal (refusal_of world event)
  where
    by_refusal : (refusal : Option Refusal) → length (unless world refusal (act world event)).after.clients ≡ length world.clients
    by_refusal None = act_clients world event
    by_refusal (Some why) = refl

pub clients_stay : (world : World) (events : List Event) → length (after_all world events).clients ≡ length world.clients
clients_stay world [] = refl
clients_stay world (event ∷ events) = clients_stay (step world event).after events ∙ step_clients world event

-- what holds of what each element gives holds of all that they give
pub all_given : {X Y : Type 0} (P : Y → Type 0) (f : X → List Y) (xs : List X) → ((x : X) → All P (f x)) → All P (flat_map f xs)
all_given P f [] each = All-nil P
all_given P f (x ∷ xs) each =
    subst (All P) (sym (flat_map-cons f x xs)) (All-append P (f x) (flat_map f xs) (each x) (all_given P f xs each))

-- what is tried again is a retry
retry_of_round : (world : World) (id : ClientId) (found : Option Client) → All IsOfRound (retry_at world id found)
retry_of_round world id None = All-nil IsOfRound
retry_of_round world id (Some client) = by_test (is_busy client && not (is_stopped world (aim client)))
  where
    by_test : (test : Bool) → All IsOfRound (cond test (Retry id (aim client) ∷ []) [])
    by_test true = All-cons IsOfRound (Retry id (aim client)) [] tt (All-nil IsOfRound)
    by_test false = All-nil IsOfRound

each_of : (make : ℕ → Event) → ((n : ℕ) → IsOfRound (make n)) → (ns : List ℕ) → All IsOfRound (map make ns)
each_of make is ns = All-map IsOfRound make ns (all_of (λ n. IsOfRound (make n)) is ns)

pub learns_of_round : (world : World) → All IsOfRound (learn_events world)
learns_of_round world = each_of learn_of (λ n. tt) (numbers_to (length world.clients))

pub ticks_of_round : (world : World) → All IsOfRound (tick_events world)
ticks_of_round world = each_of tick_of (λ n. tt) (running world)

pub retries_of_round : (world : World) → All IsOfRound (retry_events world)
retries_of_round world =
    all_given IsOfRound (retry_of world) (numbers_to (length world.clients)) (λ n. retry_of_round world (record { 0 = n }) (client_at world (record { 0 = n })))

learnt_retries_of_round : (world : World) → All IsOfRound (learnt_retry_events world)
learnt_retries_of_round world =
    all_given IsOfRound (learnt_retry_of world) (numbers_to (length world.clients)) (λ n. retry_of_round world (record { 0 = n }) (learnt world (client_at world (record { 0 = n }))))

pub deliveries_of_round : (world : World) → All IsOfRound (delivery_events world)
deliveries_of_round world =
    each_of Deliver (λ n. tt) (filter (is_under_way world) (numbers_to (length world.bag)))

pub works_of_round : (world : World) → All IsOfRound (work_events world)
works_of_round world = each_of work_of (λ n. tt) (running world)

pub calls_of_round : (world : World) → All IsOfRound (round_calls world)
calls_of_round world =
    let tried = All-append IsOfRound (tick_events world) (learnt_retry_events world) (ticks_of_round world) (learnt_retries_of_round world) in
    All-append IsOfRound (learn_events world) (Tick None ∷ (tick_events world ++ learnt_retry_events world)) (learns_of_round world) (All-cons IsOfRound (Tick None) (tick_events world ++ learnt_retry_events world) tt tried)

-- each step of a round is of such a kind
pub steps_of_round : (world : World) → All IsOfRound (round_events world)
steps_of_round world =
    let calls = round_calls world in
    let deliveries = delivery_events (after_all world calls) in
    All-append IsOfRound calls (deliveries ++ work_events world) (calls_of_round world) (All-append IsOfRound deliveries (work_events world) (deliveries_of_round (after_all world calls)) (works_of_round world))

pub asks_none : (event : Event) → IsOfRound event → AsksNothing event
asks_none (Query client server pairs) never = never
asks_none event is = tt

-- and no query
pub rounds_ask_nothing : (world : World) → All AsksNothing (round_events world)
rounds_ask_nothing world = All-weaker IsOfRound AsksNothing asks_none (round_events world) (steps_of_round world)
