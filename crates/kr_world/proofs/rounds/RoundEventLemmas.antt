-- The steps of a round could stand in a script.
use Rattle.std.proofs.Common.{zero, suc, ◌≡◌, ℕ, ◌+◌, ◌≤◌, Bool, true, false, cond, not, ◌&&◌, List, [], ◌∷◌, ◌++◌, length, refl, sym, subst, arith}
use Rattle.std.specs.Prelude.{Option, None, Some, is_some, All, filter, flat_map, slice_get}
use Rattle.std.proofs.lemmas.List.Concat.{flat_map-cons}
use Rattle.std.proofs.lemmas.List.Elements.{All-nil, All-cons, All-append, All-map, All-filter, All-head, All-tail, All-weaker}
use Rattle.kr_order.specs.declared.ids.ClientId.{ClientId}
use Rattle.kr_order.specs.declared.ids.ServerId.{ServerId}
use Rattle.kr_order.specs.Numbers.{numbers_to}
use Rattle.kr_order.specs.View.{first_view, in_chain, last_member}
use Rattle.kr_protocol.specs.Client.{Client, new_client, is_busy, first_of, server_or_none, head, last, learns}
use Rattle.kr_protocol.proofs.NeighbourLemmas.{member_is_named, in_it, has_last, last_is}
use Rattle.kr_protocol.proofs.TimelineLemmas.{rises, listed_current, made_now}
use Rattle.script_lang.specs.declared.script.Event.{Event}
use Rattle.script_lang.specs.declared.script.Event.TheVariants.{Retry, Deliver, Tick, Round}
use Rattle.script_lang.specs.Number.{IsFromOneTo}
use Rattle.script_lang.specs.Event.{IsNumber, IsEvent}
use Rattle.script_lang.specs.declared.script.Script.{Script}
use Rattle.script_lang.specs.Script.{IsScript}
use Rattle.kr_world.specs.World.{World, first_world, client_at, is_stopped}
use Rattle.kr_world.specs.Step.{is_full}
use Rattle.kr_world.specs.Sound.{IsSound}
use Rattle.kr_world.specs.Round.{after_all, learn_of, tick_of, work_of, aim, retry_at, learnt, learnt_retry_of, learn_events, tick_events, learnt_retry_events, delivery_events, work_events, runs, running, round_calls, round_events, is_under_way, plain_events, steps_of}
use Rattle.kr_world.proofs.rounds.RoundLemmas.{after_all_sound}
use Rattle.kr_world.proofs.rounds.RoundShapeLemmas.{clients_stay}
use Rattle.kr_world.proofs.sound.SoundLemmas.{worlds_sound}
use Rattle.kr_world.proofs.chain.ViewLemmas.{length-made}

-- what holds of each number up to n
each_number : (P : ℕ → Type 0) (n : ℕ) → ((k : ℕ) → 1 ≤ k → k ≤ n → P k) → All P (numbers_to n)
each_number P zero each = All-nil P
each_number P (suc n) each =
    let last = All-cons P (n + 1) [] (each (n + 1) (omega arith) (omega arith)) (All-nil P) in
    All-append P (numbers_to n) ((n + 1) ∷ []) (each_number P n (λ k low high. each k low (omega arith))) last

-- numbers that a line may give
are_numbers : (n : ℕ) → n ≤ 4294967295 → All IsNumber (numbers_to n)
are_numbers n few = each_number IsNumber n (λ k low high. record { low = low; high = omega arith })

-- the members of the current view have such numbers
member_number : (world : World) → IsSound world → (id : ServerId) → in_chain world.manager.current id ≡ true → IsNumber id.0
member_number world sound id member =
    let stopped = is_stopped world in
    let manager = world.manager in
    let rising = rises stopped manager sound.evolves manager.current (listed_current stopped manager sound.evolves) in
    let bounds = rising.most id (member_is_named manager.current id member) in
    let made = made_now stopped manager sound.evolves in
    record { low = bounds.0; high = omega (arith, bounds.1, made, sound.made, sound.few) }

-- so has the first of them
first_at : (ids : List ServerId) → 1 ≤ length ids → slice_get ids 0 ≡ Some (first_of ids)
first_at [] some = absurd (omega (arith, some))
first_at (id ∷ ids) some = refl

first_number : (world : World) → IsSound world → IsNumber (first_of world.manager.current.chain).0
first_number world sound =
    let stopped = is_stopped world in
    let manager = world.manager in
    let rising = rises stopped manager sound.evolves manager.current (listed_current stopped manager sound.evolves) in
    let first = first_of manager.current.chain in
    member_number world sound first (in_it manager.current _ rising 0 first (first_at manager.current.chain rising.some))

-- and the last
last_number : (world : World) → IsSound world → IsNumber (server_or_none (last_member world.manager.current)).0
last_number world sound =
    let stopped = is_stopped world in
    let manager = world.manager in
    let rising = rises stopped manager sound.evolves manager.current (listed_current stopped manager sound.evolves) in
    let has = has_last manager.current _ rising in
    subst (λ o. IsNumber (server_or_none o).0) (sym has.1) (member_number world sound has.0 (last_is manager.current _ rising has.0 has.1).member)

aim_number : (world : World) → IsSound world → (client : Client) → IsNumber (aim (learns client world.manager.current)).0
aim_number world sound client = by_test (is_some client.call)
  where
    by_test : (test : Bool) → IsNumber (let now = learns client world.manager.current in cond test (head now) (last now)).0
    by_test true = first_number world sound
    by_test false = last_number world sound

-- what is tried again is tried again by a client of that number
retry_fits : (world : World) → IsSound world → (id : ClientId) → IsNumber id.0 → (found : Option Client) → All IsEvent (retry_at world id (learnt world found))
retry_fits world sound id fit None = All-nil IsEvent
retry_fits world sound id fit (Some client) =
    let now = learns client world.manager.current in
    by_test (aim now) (aim_number world sound client) (is_busy client && not (is_stopped world (aim now)))
  where
    by_test : (server : ServerId) → IsNumber server.0 → (test : Bool) → All IsEvent (cond test (Retry id server ∷ []) [])
    by_test server fits true = All-cons IsEvent (Retry id server) [] (record { client_fits = fit; server_fits = fits }) (All-nil IsEvent)
    by_test server fits false = All-nil IsEvent

-- a world of which each number may stand in a line
record IsNumbered (world : World) : Type 0 where
  sound : IsSound world
  clients : length world.clients ≤ 16

learns_fit : (world : World) → IsNumbered world → All IsEvent (learn_events world)
learns_fit world is =
    All-map IsEvent learn_of (numbers_to (length world.clients)) (are_numbers (length world.clients) (omega (arith, is.clients)))

running_fit : (world : World) → IsSound world → All IsNumber (running world)
running_fit world sound =
    All-filter (runs world) IsNumber (numbers_to (length world.servers)) (are_numbers (length world.servers) (omega (arith, sound.few)))

ticks_fit : (world : World) → IsSound world → All IsEvent (tick_events world)
ticks_fit world sound = All-map IsEvent tick_of (running world) (running_fit world sound)

one_worker : IsFromOneTo 8 1
one_worker = record { low = omega arith; high = omega arith }

pub works_fit : (world : World) → IsSound world → All IsEvent (work_events world)
works_fit world sound =
    All-map IsEvent work_of (running world) (All-weaker IsNumber (λ n. IsEvent (work_of n)) (λ n fit. record { server_fits = fit; workers_fit = one_worker }) (running world) (running_fit world sound))

retries_fit : (world : World) → IsNumbered world → All IsEvent (learnt_retry_events world)
retries_fit world is =
    let fits = are_numbers (length world.clients) (omega (arith, is.clients)) in
    all_given_of IsNumber IsEvent (learnt_retry_of world) (numbers_to (length world.clients)) (λ n fit. retry_fits world is.sound (record { 0 = n }) fit (client_at world (record { 0 = n }))) fits
  where
    all_given_of : {X Y : Type 0} (P : X → Type 0) (Q : Y → Type 0) (f : X → List Y) (xs : List X) → ((x : X) → P x → All Q (f x)) → All P xs → All Q (flat_map f xs)
    all_given_of P Q f [] each all = All-nil Q
    all_given_of P Q f (x ∷ xs) each all =
        subst (All Q) (sym (flat_map-cons f x xs)) (All-append Q (f x) (flat_map f xs) (each x (All-head P x xs all)) (all_given_of P Q f xs each (All-tail P x xs all)))

pub deliveries_fit : (world : World) → IsSound world → All IsEvent (delivery_events world)
deliveries_fit world sound =
    let ks = numbers_to (length world.bag) in
    All-map IsEvent Deliver (filter (is_under_way world) ks) (All-filter (is_under_way world) IsNumber ks (are_numbers (length world.bag) (omega (arith, sound.bag))))

pub calls_fit : (world : World) → IsSound world → length world.clients ≤ 16 → All IsEvent (round_calls world)
calls_fit world sound few =
    let is : IsNumbered world = record { sound = sound; clients = few } in
    let again = All-append IsEvent (tick_events world) (learnt_retry_events world) (ticks_fit world is.sound) (retries_fit world is) in
    All-append IsEvent (learn_events world) (Tick None ∷ (tick_events world ++ learnt_retry_events world)) (learns_fit world is) (All-cons IsEvent (Tick None) (tick_events world ++ learnt_retry_events world) tt again)

-- each step of a round could stand in a script
round_fits : (world : World) → IsNumbered world → All IsEvent (round_events world)
round_fits world is =
    let calls = round_calls world in
    let now = after_all world calls in
    let deliveries = delivery_events now in
    All-append IsEvent calls (deliveries ++ work_events world) (calls_fit world is.sound is.clients) (All-append IsEvent deliveries (work_events world) (deliveries_fit now (after_all_sound world calls is.sound)) (works_fit world is.sound))

one_fits : (event : Event) → IsEvent event → All IsEvent (event ∷ [])
one_fits event fit = All-cons IsEvent event [] fit (All-nil IsEvent)

plain_fit : (world : World) → IsNumbered world → (event : Event) → IsEvent event → All IsEvent (plain_events world event)
plain_fit world is Round fit = by_test (is_full world)
  where
    by_test : (test : Bool) → All IsEvent (cond test (Round ∷ []) (round_events world))
    by_test true = one_fits Round tt
    by_test false = round_fits world is
plain_fit world is event fit = one_fits event fit

steps_fit_from : (world : World) → IsNumbered world → (events : List Event) → All IsEvent events → All IsEvent (steps_of world events)
steps_fit_from world is [] all = All-nil IsEvent
steps_fit_from world is (event ∷ events) all =
    let plain = plain_events world event in
    let now = after_all world plain in
    let clients = clients_stay world plain in
    let still : IsNumbered now = record { sound = after_all_sound world plain is.sound; clients = omega (arith, clients, is.clients) } in
    All-append IsEvent plain (steps_of now events) (plain_fit world is event (All-head IsEvent event events all)) (steps_fit_from now still events (All-tail IsEvent event events all))

-- so each plain step of a script's lines could
pub steps_fit : (world : World) → IsSound world → length world.clients ≤ 16 → (events : List Event) → All IsEvent events → All IsEvent (steps_of world events)
steps_fit world sound few events all = steps_fit_from world (record { sound = sound; clients = few }) events all

-- from its first world on
pub script_fits : (script : Script) → IsScript script → All IsEvent (steps_of (first_world script.servers script.clients) script.events)
script_fits script fit =
    let first = first_world script.servers script.clients in
    let sound = worlds_sound.first script.servers script.clients fit.size.servers_fit.low (omega (arith, fit.size.servers_fit.high)) in
    let count : length first.clients ≡ script.clients = length-made (λ n. new_client (first_view script.servers) (record { 0 = n })) script.clients in
    steps_fit first sound (omega (arith, count, fit.size.clients_fit.high)) script.events fit.each
