-- Rounds: the plain steps that a line `round` stands for.
use Rattle.std.specs.Prelude.{ℕ, ◌≤◌, Bool, true, false, not, ◌&&◌, is_some, if◌then◌else◌, List, []}
use Rattle.std.specs.Prelude.{◌∷◌, ◌++◌, length, map, filter, flat_map, ◌≡◌, Option, None, Some}
use Rattle.kr_order.specs.declared.ids.ClientId.{ClientId}
use Rattle.kr_order.specs.declared.ids.ServerId.{ServerId}
use Rattle.kr_order.specs.declared.message.Packet.{Packet}
use Rattle.kr_order.specs.Numbers.{numbers_to}
use Rattle.kr_protocol.specs.Client.{Client, is_busy, head, last, learns}
use Rattle.script_lang.specs.declared.script.Event.{Event}
use Rattle.script_lang.specs.declared.script.Event.TheVariants.{Retry, Deliver, Tick, Work, Round, Learn}
use Rattle.kr_order.specs.Marks.{is_marked}
use Rattle.kr_world.specs.World.{World, client_at, packet_at, is_stopped, has_stopped}
use Rattle.kr_world.specs.Step.{is_full, step}

-- the world after the steps of these events, one after the other
abbrev pub after_all : World → List Event → World
after_all world [] = world
after_all world (event ∷ events) = after_all (step world event).after events

-- each client learns the manager's view
abbrev pub learn_of : ℕ → Event
learn_of n = Learn (record { 0 = n })

abbrev pub learn_events : World → List Event
learn_events world = map learn_of (numbers_to (length world.clients))

-- the numbers of the servers that have not stopped, rising
abbrev pub runs : World → ℕ → Bool
runs world n = not (is_marked world.stopped n)

abbrev pub running : World → List ℕ
running world = filter (runs world) (numbers_to (length world.servers))

-- each of them ticks
abbrev pub tick_of : ℕ → Event
tick_of n = Tick (Some (record { 0 = n }))

abbrev pub tick_events : World → List Event
tick_events world = map tick_of (running world)

-- the server at which a client tries its open call again: for a command the first of the view that it knows, for a query
-- the last
abbrev pub aim : Client → ServerId
aim client = if is_some client.call then head client else last client

-- a client that has an open call tries it again, where that server has not stopped
abbrev pub retry_at : World → ClientId → Option Client → List Event
retry_at world id None = []
retry_at world id (Some client) =
    if is_busy client && not (is_stopped world (aim client)) then Retry id (aim client) ∷ [] else []

abbrev pub retry_of : World → ℕ → List Event
retry_of world n = retry_at world (record { 0 = n }) (client_at world (record { 0 = n }))

abbrev pub retry_events : World → List Event
retry_events world = flat_map (retry_of world) (numbers_to (length world.clients))

-- the client, when it has learnt the manager's view
abbrev pub learnt : World → Option Client → Option Client
learnt world None = None
learnt world (Some client) = Some (learns client world.manager.current)

-- the same, before the clients have learnt the view
abbrev pub learnt_retry_of : World → ℕ → List Event
learnt_retry_of world n = retry_at world (record { 0 = n }) (learnt world (client_at world (record { 0 = n })))

abbrev pub learnt_retry_events : World → List Event
learnt_retry_events world = flat_map (learnt_retry_of world) (numbers_to (length world.clients))

-- the packet was never delivered and is not lost, and its addressee has not stopped
abbrev pub may_take : World → Option Packet → Bool
may_take world None = false
may_take world (Some packet) = not (has_stopped world packet.to)

abbrev pub is_under_way : World → ℕ → Bool
is_under_way world k =
    not (is_marked world.delivered k) && (not (is_marked world.lost k) && may_take world (packet_at world k))

-- each packet that is under way is delivered, numbers rising
abbrev pub delivery_events : World → List Event
delivery_events world = map Deliver (filter (is_under_way world) (numbers_to (length world.bag)))

-- each server that has not stopped works, with one worker
abbrev pub work_of : ℕ → Event
work_of n = Work (record { 0 = n }) 1

abbrev pub work_events : World → List Event
work_events world = map work_of (running world)

-- the first part of a round, before the deliveries: all clients learn the view, the manager and the servers tick, and the
-- open calls are tried again
abbrev pub round_calls : World → List Event
round_calls world = learn_events world ++ (Tick None ∷ (tick_events world ++ learnt_retry_events world))

-- the plain steps of a round. What is delivered was sent before the first delivery. Which servers run, and which calls are
-- open, the first part does not change, so they are read from the world before.
abbrev pub round_events : World → List Event
round_events world =
    let calls = round_calls world in calls ++ (delivery_events (after_all world calls) ++ work_events world)

-- the same, each part read from the world after the parts before it
abbrev pub round_step_by_step : World → List Event
round_step_by_step world =
    let learn = learn_events world in
    let learnt = after_all world learn in
    let told = after_all learnt (Tick None ∷ []) in
    let tick = tick_events told in
    let ticked = after_all told tick in
    let retry = retry_events ticked in
    let tried = after_all ticked retry in
    let deliver = delivery_events tried in
    let taken = after_all tried deliver in
    learn ++ (Tick None ∷ (tick ++ (retry ++ (deliver ++ work_events taken))))

-- there is no difference
abbrev pub RoundsGoStepByStep : Type 0
RoundsGoStepByStep = (world : World) → round_events world ≡ round_step_by_step world

-- the kinds of plain steps that a round has
abbrev pub IsOfRound : Event → Type 0
IsOfRound (Retry client server) = Unit {0}
IsOfRound (Deliver k) = Unit {0}
IsOfRound (Tick who) = Unit {0}
IsOfRound (Work server workers) = Unit {0}
IsOfRound (Learn client) = Unit {0}
IsOfRound event = ⊥

-- the plain steps of a line: a round's where the bag is not full at its start, else itself alone
abbrev pub plain_events : World → Event → List Event
plain_events world Round = if is_full world then Round ∷ [] else round_events world
plain_events world event = event ∷ []

abbrev pub is_round : Event → Bool
is_round Round = true
is_round event = false

-- the line is one plain step
abbrev pub IsStep : Event → Type 0
IsStep event = is_round event ≡ false

-- the world after a line's plain steps
abbrev pub after_line : World → Event → World
after_line world event = after_all world (plain_events world event)

-- the plain steps of a script's lines, one line's after the other's
abbrev pub steps_of : World → List Event → List Event
steps_of world [] = []
steps_of world (event ∷ events) = plain_events world event ++ steps_of (after_line world event) events

-- none of the first n packets is under way: each was delivered or is lost, or its addressee has stopped
pub record AreSettled (world : World) (n : ℕ) : Type 0 where
  pub within : n ≤ length world.bag
  pub none : (k : ℕ) → 1 ≤ k → k ≤ n → is_under_way world k ≡ false
