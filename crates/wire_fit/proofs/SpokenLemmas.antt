-- Each packet that a run puts into the bag can be spelt.
use Rattle.std.proofs.Common.{ℕ, ◌+◌, ◌-◌, ◌^◌, ◌<◌, ◌≤◌, map, get_or, subst, arith}
use Rattle.std.specs.Prelude.{Option, None, Some, All}
use Rattle.std.proofs.lemmas.List.Elements.{All-nil, All-map}
use Rattle.std.proofs.lemmas.Option.{slice_get-get_or}
use Rattle.kr_order.specs.declared.view.View.{View}
use Rattle.kr_order.specs.View.{first_view}
use Rattle.kr_order.specs.Numbers.{numbers_to}
use Rattle.kr_protocol.specs.Server.{Server, founder}
use Rattle.kr_protocol.specs.Client.{Client, new_client}
use Rattle.script_lang.specs.declared.script.Event.{Event}
use Rattle.script_lang.specs.Event.{IsEvent}
use Rattle.script_lang.specs.Script.{IsSize}
use Rattle.kr_world.specs.declared.refusal.Refusal.{Refusal}
use Rattle.kr_world.specs.World.{World, first_world, is_stopped}
use Rattle.kr_world.specs.Step.{refusal_of, act, unless, step}
use Rattle.kr_world.specs.Sound.{IsSound, HaveBegun}
use Rattle.kr_world.proofs.steps.ListFacts.{all_of}
use Rattle.kr_world.proofs.sound.SoundLemmas.{worlds_sound}
use Rattle.kr_world.proofs.chain.ViewLemmas.{made_at}
use Rattle.kr_wire.specs.Valid.{IsEntry, IsView, IsPacket}
use Rattle.wire_fit.specs.Spoken.{IsSpokenQuery, IsSpokenServer, IsSpokenClient, IsSpoken, WorldsAreSpoken}
use Rattle.wire_fit.proofs.ViewLemmas.{current_fits, views_fit}
use Rattle.wire_fit.proofs.StepLemmas.{IsReady, act_spoken}

-- a client that has begun nothing, and knows a view that can be spelt
new_fits : (view : View) (n : ℕ) → IsView view → n < 16 → IsSpokenClient (new_client view (record { 0 = n + 1 }))
new_fits view n known few =
    record {
      id = record { above = omega arith; fits = omega arith };
      call = tt;
      part = record { least = omega arith; most = omega arith };
      asking = tt;
      known = known;
    }

new_clients_fit :
    (view : View) (clients : ℕ)
    → IsView view
    → clients ≤ 16
    → All IsSpokenClient (map (λ n. new_client view (record { 0 = n })) (numbers_to clients))
new_clients_fit view clients known few k d lt =
    let make : ℕ → Client = λ n. new_client view (record { 0 = n }) in
    let all = map make (numbers_to clients) in
    let at = made_at make clients k (get_or all k d) (slice_get-get_or all k d lt) in
    let within = at.0 in
    subst IsSpokenClient at.1 (new_fits view k known (omega arith))

-- before the first step nothing is said
pub spoken_first : (servers clients : ℕ) → IsSize servers clients → IsSpoken (first_world servers clients)
spoken_first servers clients size =
    let low = size.servers_fit.low in
    let high = size.servers_fit.high in
    let most = size.clients_fit.high in
    let world = first_world servers clients in
    let view = first_view servers in
    let sound = worlds_sound.first servers clients low (omega arith) in
    let found : ℕ → Server = λ n. founder view (record { 0 = n }) in
    let known = current_fits (is_stopped world) world.manager sound.evolves (omega arith) (omega arith) in
    record {
      packets = All-nil IsPacket;
      views = views_fit (is_stopped world) world.manager sound.evolves (omega arith) (omega arith);
      number = omega arith;
      servers =
          All-map IsSpokenServer found (numbers_to servers)
          (all_of (λ n. IsSpokenServer (found n)) (λ n. record { log = All-nil IsEntry; waiting = All-nil IsSpokenQuery }) (numbers_to servers));
      clients = new_clients_fit view clients known most;
    }

step_cases :
    (world : World) (event : Event) (refusal : Option Refusal)
    → IsEvent event
    → IsSound (unless world refusal (act world event)).after
    → IsReady world
    → IsSpoken (unless world refusal (act world event)).after
step_cases world event None fits after ready = act_spoken world event fits after ready
step_cases world event (Some why) fits after ready = ready.spoken

-- and a step says only what can be spelt
pub spoken_later :
    (world : World) (event : Event)
    → IsSound world
    → HaveBegun (2 ^ 63 - 1) world.clients
    → IsEvent event
    → IsSpoken world
    → IsSpoken (step world event).after
spoken_later world event sound begun fits spoken =
    step_cases world event (refusal_of world event) fits (worlds_sound.later world event sound)
    (record { sound = sound; begun = begun; spoken = spoken })

pub worlds_spoken : WorldsAreSpoken
worlds_spoken = record { first = spoken_first; later = spoken_later }
