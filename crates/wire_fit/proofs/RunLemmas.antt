-- Each packet of a run is read again of its spelling.
use Rattle.std.proofs.Common.{zero, suc, ◌≡◌, ℕ, ◌+◌, ◌-◌, ◌^◌, ◌≤◌, Bool, true, false, cond, List, [], ◌∷◌, ◌++◌, length, subst, arith}
use Rattle.std.specs.Prelude.{Some, slice_get, All}
use Rattle.std.proofs.lemmas.List.Elements.{All-head, All-tail, All-weaker}
use Rattle.std.proofs.lemmas.Option.{none-some, same_Some}
use Rattle.kr_protocol.specs.Client.{Client}
use Rattle.script_lang.specs.declared.script.Event.{Event}
use Rattle.script_lang.specs.declared.script.Event.TheVariants.{Round}
use Rattle.script_lang.specs.Event.{IsEvent}
use Rattle.kr_world.specs.World.{World, first_world}
use Rattle.kr_world.specs.Step.{is_full, step}
use Rattle.kr_world.specs.Round.{after_all, round_events, plain_events, after_line, steps_of}
use Rattle.kr_world.specs.Run.{Turn, run_from}
use Rattle.kr_world.specs.Sound.{HaveBegun}
use Rattle.kr_world.proofs.sound.SoundLemmas.{worlds_sound}
use Rattle.kr_world.proofs.steps.CountLemmas.{AsksNothing, queries_kept, queries_counted, none_begun}
use Rattle.kr_world.proofs.rounds.RoundShapeLemmas.{rounds_ask_nothing}
use Rattle.kr_world.proofs.rounds.RoundCountLemmas.{line_counted}
use Rattle.kr_world.proofs.rounds.RoundEventLemmas.{script_fits}
use Rattle.kr_wire.specs.Valid.{IsPacket}
use Rattle.kr_wire.proofs.DecodeLemmas.{packet_in_again}
use Rattle.wire_fit.specs.Spoken.{IsSpoken}
use Rattle.wire_fit.specs.Runs.{IsReadAgain, RunsKeepPackets}
use Rattle.wire_fit.proofs.StepLemmas.{IsReady}
use Rattle.wire_fit.proofs.SpokenLemmas.{spoken_first, spoken_later}

-- fewer queries begun are no more than so many
begun_few : (n m : ℕ) (clients : List Client) → n ≤ m → HaveBegun n clients → HaveBegun m clients
begun_few n m clients le begun =
    All-weaker (λ client. client.q ≤ n) (λ client. client.q ≤ m) (λ client few. omega arith) clients begun

-- before each of these steps and after the last no client has begun more than m queries
abbrev AreCounted : ℕ → World → List Event → Type 0
AreCounted m world [] = HaveBegun m world.clients
AreCounted m world (event ∷ events) = HaveBegun m world.clients × AreCounted m (step world event).after events

counted-append : (m : ℕ) (world : World) (xs ys : List Event) → AreCounted m world xs → AreCounted m (after_all world xs) ys
    → AreCounted m world (xs ++ ys)
counted-append m world [] ys first rest = rest
counted-append m world (x ∷ xs) ys first rest = (first.0, counted-append m (step world x).after xs ys first.1 rest)

-- steps that begin no query
asking_none : (m : ℕ) (world : World) (events : List Event) → All AsksNothing events → HaveBegun m world.clients
    → AreCounted m world events
asking_none m world [] all begun = begun
asking_none m world (event ∷ events) all begun =
    let asks = All-head AsksNothing event events all in
    (begun, asking_none m (step world event).after events (All-tail AsksNothing event events all) (queries_kept m world event asks begun))

-- a line that is a step begins one at the most
one_counted : (n m : ℕ) (world : World) (event : Event) → n + 1 ≤ m → HaveBegun n world.clients → AreCounted m world (event ∷ [])
one_counted n m world event le begun =
    let after = (step world event).after in
    (begun_few n m world.clients (omega arith) begun, begun_few (n + 1) m after.clients le (queries_counted n world event begun))

plain_counted : (n m : ℕ) (world : World) (event : Event) → n + 1 ≤ m → HaveBegun n world.clients
    → AreCounted m world (plain_events world event)
plain_counted n m world Round le begun = by_test (is_full world)
  where
    by_test : (test : Bool) → AreCounted m world (cond test (Round ∷ []) (round_events world))
    by_test true = one_counted n m world Round le begun
    by_test false =
        asking_none m world (round_events world) (rounds_ask_nothing world) (begun_few n m world.clients (omega arith) begun)
plain_counted n m world event le begun = one_counted n m world event le begun

-- so do as many lines as there are
lines_counted : (n m : ℕ) (world : World) (events : List Event) → n + length events ≤ m → HaveBegun n world.clients
    → AreCounted m world (steps_of world events)
lines_counted n m world [] le begun = begun_few n m world.clients (omega arith) begun
lines_counted n m world (event ∷ events) le begun =
    let after = after_line world event in
    counted-append m world (plain_events world event) (steps_of after events)
    (plain_counted n m world event (omega arith) begun)
    (lines_counted (n + 1) m after events (omega arith) (line_counted n world event begun))

-- the first of so many
counted_now : (m : ℕ) (world : World) (events : List Event) → AreCounted m world events → HaveBegun m world.clients
counted_now m world [] counted = counted
counted_now m world (event ∷ events) counted = counted.0

-- a run may go on by these steps from a world
record MayGoOn (world : World) (events : List Event) : Type 0 where
  each : All IsEvent events
  counted : AreCounted (2 ^ 63 - 1) world events
  ready : IsReady world

goes_on : (world : World) (event : Event) (events : List Event) → MayGoOn world (event ∷ events)
    → MayGoOn (step world event).after events
goes_on world event events may =
    let after = (step world event).after in
    let ready = may.ready in
    let fits = All-head IsEvent event events may.each in
    record {
      each = All-tail IsEvent event events may.each;
      counted = may.counted.1;
      ready = record {
        sound = worlds_sound.later world event ready.sound;
        begun = counted_now (2 ^ 63 - 1) after events may.counted.1;
        spoken = spoken_later world event ready.sound ready.begun fits ready.spoken;
      };
    }

-- each packet of a spoken world is read again
read_again : (world : World) → IsSpoken world → All IsReadAgain world.bag
read_again world spoken =
    All-weaker IsPacket IsReadAgain (λ packet fits. record { fits = fits; again = packet_in_again packet fits }) world.bag
    spoken.packets

run_keeps : (world : World) (events : List Event) → MayGoOn world events → (i : ℕ) (turn : Turn)
    → slice_get (run_from world events) i ≡ Some turn → All IsReadAgain turn.outcome.after.bag
run_keeps world [] may i turn is = absurd (none-some turn is)
run_keeps world (event ∷ events) may zero turn is =
    let outcome = step world event in
    let first : Turn = record { before = world; event = event; outcome = outcome } in
    subst (λ t. All IsReadAgain t.outcome.after.bag) (same_Some first turn is)
    (read_again outcome.after (goes_on world event events may).ready.spoken)
run_keeps world (event ∷ events) may (suc i) turn is =
    run_keeps (step world event).after events (goes_on world event events may) i turn is

pub runs_keep : RunsKeepPackets
runs_keep script fit few =
    let high = fit.size.servers_fit.high in
    let first = first_world script.servers script.clients in
    let begun = none_begun script.servers script.clients in
    run_keeps first (steps_of first script.events) (record {
      each = script_fits script fit;
      counted = lines_counted 0 (2 ^ 63 - 1) first script.events (omega arith) begun;
      ready = record {
        sound = worlds_sound.first script.servers script.clients fit.size.servers_fit.low (omega arith);
        begun = begun_few 0 (2 ^ 63 - 1) first.clients (omega arith) begun;
        spoken = spoken_first script.servers script.clients fit.size;
      };
    })
