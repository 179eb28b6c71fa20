-- The steps of a round, read from the world before, are those read one part after the other.
use Rattle.std.proofs.Common.{zero, suc, ◌≡◌, ◌≢◌, ℕ, ◌+◌, ◌-◌, ◌≤◌, ◌<◌, cond, not, ◌&&◌, List, [], ◌∷◌, ◌++◌, length, map, set, refl, sym, ap, ◌∙◌, subst, arith, inl, inr}
use Rattle.std.specs.Prelude.{Option, None, Some, filter, flat_map, slice_get}
use Rattle.std.proofs.lemmas.Bool.{cases_eq, cases_lt}
use Rattle.std.proofs.lemmas.Grind.{flat_map-append}
use Rattle.std.proofs.lemmas.List.{append_assoc, length-set, map-append}
use Rattle.std.proofs.lemmas.List.Elements.{All-nil, All-cons}
use Rattle.std.proofs.lemmas.Option.{slice_get-get_or, slice_get_past, slice_get_within}
use Rattle.kr_order.specs.declared.ids.ClientId.{ClientId}
use Rattle.kr_order.specs.declared.ids.ServerId.{ServerId}
use Rattle.kr_order.specs.Numbers.{numbers_to}
use Rattle.kr_protocol.specs.Server.{Server}
use Rattle.kr_protocol.specs.Client.{Client, is_busy, learns}
use Rattle.script_lang.specs.declared.script.Event.TheVariants.{Retry, Tick}
use Rattle.kr_world.specs.declared.refusal.Refusal.{Refusal}
use Rattle.kr_order.specs.Marks.{is_marked}
use Rattle.kr_world.specs.World.{World, client_at, server_at}
use Rattle.kr_world.specs.Step.{tick_refusal, learn_refusal, learns_view, ticks, ticks_at, step, unless}
use Rattle.kr_world.specs.Round.{after_all, learn_of, learn_events, runs, running, tick_of, tick_events, aim, retry_at, retry_of, retry_events, learnt, learnt_retry_of, learnt_retry_events, delivery_events, work_of, work_events, round_calls, round_events, RoundsGoStepByStep, IsOfRound}
use Rattle.kr_world.proofs.steps.ListFacts.{set_here, set_other}
use Rattle.kr_world.proofs.rounds.RoundLemmas.{after_all-append}
use Rattle.kr_world.proofs.rounds.RoundShapeLemmas.{HasShapeOf, shape_stays, shape-trans, learns_of_round, ticks_of_round, retries_of_round, deliveries_of_round}

-- the others stand as they stood, or not at all
set_apart : {X : Type 0} (xs : List X) (i : ℕ) (a : X) (j : ℕ) → j ≢ i → slice_get (set xs i a) j ≡ slice_get xs j
set_apart xs i a j other =
    elim (cases_lt j (length xs)) [
      | inl lt ↦
          let there = slice_get-get_or xs j a lt in set_other xs i a j _ other there ∙ sym there
      | inr past ↦ slice_get_past (set xs i a) j (omega (arith, length-set xs i a)) ∙ sym (slice_get_past xs j past)
    ]

-- a client learns the view, and the others do not
learnt_here : (world : World) (id : ClientId) (found : Option Client) → client_at world id ≡ found → client_at (unless world (learn_refusal found) (learns_view world id found)).after id ≡ learnt world found
learnt_here world id None is = is
learnt_here world id (Some client) is =
    set_here world.clients (id.0 - 1) (learns client world.manager.current) (slice_get_within world.clients (id.0 - 1) client is)

learnt_elsewhere : (world : World) (id : ClientId) (found : Option Client) (other : ClientId) → other.0 - 1 ≢ id.0 - 1 → client_at (unless world (learn_refusal found) (learns_view world id found)).after other ≡ client_at world other
learnt_elsewhere world id None other apart = refl
learnt_elsewhere world id (Some client) other apart =
    set_apart world.clients (id.0 - 1) (learns client world.manager.current) (other.0 - 1) apart

learn_manager : (world : World) (id : ClientId) (found : Option Client) → (unless world (learn_refusal found) (learns_view world id found)).after.manager ≡ world.manager
learn_manager world id None = refl
learn_manager world id (Some client) = refl

-- so many clients have learnt the view
after_learning : World → ℕ → World
after_learning world n = after_all world (map learn_of (numbers_to n))

after_learning-next : (world : World) (n : ℕ) → after_learning world (suc n) ≡ (step (after_learning world n) (learn_of (n + 1))).after
unfolding after_learning
after_learning-next world n =
    ap (after_all world) (map-append learn_of (numbers_to n) ((n + 1) ∷ [])) ∙ after_all-append world (map learn_of (numbers_to n)) (learn_of (n + 1) ∷ [])

-- a client after so many have: it has too where its number is no greater
record HasLearnt (world : World) (n m : ℕ) (after : World) : Type 0 where
  early : m ≤ n → client_at after (record { 0 = m }) ≡ learnt world (client_at world (record { 0 = m }))
  late : n < m → client_at after (record { 0 = m }) ≡ client_at world (record { 0 = m })
  manager : after.manager ≡ world.manager

learnt_by : (world : World) (n m : ℕ) → 1 ≤ m → HasLearnt world n m (after_learning world n)
unfolding after_learning
learnt_by world zero m some = record { early = λ le. absurd (omega arith); late = λ lt. refl; manager = refl }
learnt_by world (suc n) m some =
    subst (HasLearnt world (suc n) m) (sym (after_learning-next world n)) (one_more (after_learning world n) (learnt_by world n m some))
  where
    one_more : (now : World) → HasLearnt world n m now → HasLearnt world (suc n) m (step now (learn_of (n + 1))).after
    one_more now so_far =
        let id : ClientId = record { 0 = n + 1 } in
        let its : ClientId = record { 0 = m } in
        let found = client_at now id in
        let next = (step now (learn_of (n + 1))).after in
        let others : (its.0 - 1 ≢ id.0 - 1) → client_at next its ≡ client_at now its = λ apart. learnt_elsewhere now id found its apart in
        record {
          early = λ le. elim (cases_eq m (n + 1)) [
            | inl same ↦
                let here : client_at next id ≡ learnt now found = learnt_here now id found refl in
                let here' : client_at next its ≡ learnt now (client_at now its) = subst (λ k. client_at next (record { 0 = k }) ≡ learnt now (client_at now (record { 0 = k }))) (sym same) here in
                here' ∙ ap (learnt now) (so_far.late (omega arith)) ∙ by_manager now (client_at world its) so_far.manager
            | inr other ↦ others (λ e. other (omega arith)) ∙ so_far.early (omega arith)
          ];
          late = λ lt. others (λ e. absurd (omega arith)) ∙ so_far.late (omega arith);
          manager = learn_manager now id found ∙ so_far.manager;
        }
      where
        by_manager : (now : World) (found : Option Client) → now.manager ≡ world.manager → learnt now found ≡ learnt world found
        by_manager now None is = refl
        by_manager now (Some client) is = ap (λ manager. Some (learns client manager.current)) is

-- ticks leave the clients as they are
tick_clients : (world : World) (id : ServerId) (found : Option Server) → (ticks_at world id found).after.clients ≡ world.clients
tick_clients world id None = refl
tick_clients world id (Some server) = refl

who_clients : (world : World) (who : Option ServerId) → (ticks world who).after.clients ≡ world.clients
who_clients world None = refl
who_clients world (Some server) = tick_clients world server (server_at world server)

ticked_clients : (world : World) (who : Option ServerId) → (step world (Tick who)).after.clients ≡ world.clients
ticked_clients world who = by_refusal (tick_refusal world who)
  where
    by_refusal : (refusal : Option Refusal) → (unless world refusal (ticks world who)).after.clients ≡ world.clients
    by_refusal None = who_clients world who
    by_refusal (Some why) = refl

all_ticked_clients : (world : World) (ns : List ℕ) → (after_all world (map tick_of ns)).clients ≡ world.clients
all_ticked_clients world [] = refl
all_ticked_clients world (n ∷ ns) =
    let who : Option ServerId = Some (record { 0 = n }) in
    all_ticked_clients (step world (Tick who)).after ns ∙ ticked_clients world who

-- what depends on the shape alone
runs_alike : (world after : World) → HasShapeOf world after → running after ≡ running world
runs_alike world after alike =
    ap (λ marks. filter (λ n. not (is_marked marks n)) (numbers_to (length after.servers))) alike.stopped ∙ ap (λ count. filter (runs world) (numbers_to count)) alike.servers

tries_alike : (world after : World) (id : ClientId) (found : Option Client) → after.stopped ≡ world.stopped → retry_at after id found ≡ retry_at world id found
tries_alike world after id None same = refl
tries_alike world after id (Some client) same =
    ap (λ marks. cond (is_busy client && not (is_marked marks (aim client).0)) (Retry id (aim client) ∷ []) []) same

-- what two functions give alike up to n they give together
same_given : {Y : Type 0} (f g : ℕ → List Y) (n : ℕ) → ((m : ℕ) → 1 ≤ m → m ≤ n → f m ≡ g m) → flat_map f (numbers_to n) ≡ flat_map g (numbers_to n)
same_given f g zero same = refl
same_given f g (suc n) same =
    let rest = same_given f g n (λ m low high. same m low (omega arith)) in
    let last = same (n + 1) (omega arith) (omega arith) in
    let one : flat_map f ((n + 1) ∷ []) ≡ flat_map g ((n + 1) ∷ []) = ap (λ ys. ys ++ []) last in
    flat_map-append f (numbers_to n) ((n + 1) ∷ []) ∙ ap (λ ys. ys ++ flat_map f ((n + 1) ∷ [])) rest ∙ ap (λ ys. flat_map g (numbers_to n) ++ ys) one ∙ sym (flat_map-append g (numbers_to n) ((n + 1) ∷ []))

-- the worlds of a round, one part after the other
abbrev told : World → World
told world = after_all (after_all world (learn_events world)) (Tick None ∷ [])

abbrev ticked : World → World
ticked world = after_all (told world) (tick_events (told world))

abbrev tried : World → World
tried world = after_all (ticked world) (retry_events (ticked world))

abbrev taken : World → World
taken world = after_all (tried world) (delivery_events (tried world))

told_shape : (world : World) → HasShapeOf world (told world)
told_shape world =
    let learned = after_all world (learn_events world) in
    shape-trans world learned (told world) (shape_stays world (learn_events world) (learns_of_round world)) (shape_stays learned (Tick None ∷ []) (All-cons IsOfRound (Tick None) [] tt (All-nil IsOfRound)))

ticked_shape : (world : World) → HasShapeOf world (ticked world)
ticked_shape world =
    let now = told world in
    shape-trans world now (ticked world) (told_shape world) (shape_stays now (tick_events now) (ticks_of_round now))

taken_shape : (world : World) → HasShapeOf world (taken world)
taken_shape world =
    let now = ticked world in
    let then = tried world in
    shape-trans world then (taken world) (shape-trans world now then (ticked_shape world) (shape_stays now (retry_events now) (retries_of_round now))) (shape_stays then (delivery_events then) (deliveries_of_round then))

-- the parts
same_ticks : (world : World) → tick_events (told world) ≡ tick_events world
same_ticks world = ap (map tick_of) (runs_alike world (told world) (told_shape world))

same_works : (world : World) → work_events (taken world) ≡ work_events world
same_works world = ap (map work_of) (runs_alike world (taken world) (taken_shape world))

-- before the retries each client has learnt the view
client_then : (world : World) (m : ℕ) → 1 ≤ m → m ≤ length world.clients → client_at (ticked world) (record { 0 = m }) ≡ learnt world (client_at world (record { 0 = m }))
unfolding after_learning
client_then world m low high =
    let learned = after_all world (learn_events world) in
    let now = told world in
    let its : ClientId = record { 0 = m } in
    let all = all_ticked_clients now (running now) ∙ ticked_clients learned None in
    ap (λ clients. slice_get clients (m - 1)) all ∙ (learnt_by world (length world.clients) m low).early high

pub same_retries : (world : World) → retry_events (ticked world) ≡ learnt_retry_events world
same_retries world =
    let now = ticked world in
    let shape = ticked_shape world in
    ap (λ count. flat_map (retry_of now) (numbers_to count)) shape.clients ∙ same_given (retry_of now) (learnt_retry_of world) (length world.clients) (λ m low high.
    let its : ClientId = record { 0 = m } in
    ap (retry_at now its) (client_then world m low high) ∙ tries_alike world now its (learnt world (client_at world its)) shape.stopped)

-- the world before the deliveries
same_tried : (world : World) → tried world ≡ after_all world (round_calls world)
same_tried world =
    let learn = learn_events world in
    let learned = after_all world learn in
    let now = told world in
    let tick = tick_events world in
    let retry = learnt_retry_events world in
    let by_ticks : after_all now (tick_events now) ≡ after_all now tick = ap (after_all now) (same_ticks world) in
    let by_retries : tried world ≡ after_all (after_all now tick) retry = ap (λ w. after_all w (retry_events (ticked world))) by_ticks ∙ ap (after_all (after_all now tick)) (same_retries world) in
    by_retries ∙ sym (after_all-append now tick retry) ∙ sym (after_all-append world learn (Tick None ∷ (tick ++ retry)))

pub rounds_by_steps : RoundsGoStepByStep
rounds_by_steps world =
    let learn = learn_events world in
    let tick = tick_events world in
    let retry = learnt_retry_events world in
    let deliver = delivery_events (after_all world (round_calls world)) in
    let work = work_events world in
    let apart : round_events world ≡ learn ++ (Tick None ∷ (tick ++ (retry ++ (deliver ++ work)))) = append_assoc learn (Tick None ∷ (tick ++ retry)) (deliver ++ work) ∙ ap (λ es. learn ++ (Tick None ∷ es)) (append_assoc tick retry (deliver ++ work)) in
    let by_ticks = ap (λ es. learn ++ (Tick None ∷ (es ++ (retry ++ (deliver ++ work))))) (sym (same_ticks world)) in
    let by_retries = ap (λ es. learn ++ (Tick None ∷ (tick_events (told world) ++ (es ++ (deliver ++ work))))) (sym (same_retries world)) in
    let by_deliveries = ap (λ w. learn ++ (Tick None ∷ (tick_events (told world) ++ (retry_events (ticked world) ++ (delivery_events w ++ work))))) (sym (same_tried world)) in
    let by_works = ap (λ es. learn ++ (Tick None ∷ (tick_events (told world) ++ (retry_events (ticked world) ++ (delivery_events (tried world) ++ es))))) (sym (same_works world)) in
    apart ∙ by_ticks ∙ by_retries ∙ by_deliveries ∙ by_works
