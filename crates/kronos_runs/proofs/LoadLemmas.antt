-- A load that is part way: where the cluster stands after the first events, and what is left to count.
use Rattle.std.proofs.Common.{◌≡◌, ℕ, ◌+◌, ◌<◌, ◌≤◌, List, [], ◌∷◌, map, length, get_or, drop, refl, sym, ap, ◌∙◌, subst, arith, zero-add}
use Rattle.std.specs.Prelude.{◌^◌, Bool, false, All}
use Rattle.std.proofs.lemmas.List.{drop_more, drop_all}
use Rattle.std.proofs.lemmas.List.Elements.{All-get_or}
use Rattle.std.proofs.lemmas.List.Sums.{sum_by-cons}
use Rattle.kr_order.specs.declared.history.Entry.{Entry}
use Rattle.kr_order.specs.declared.history.DoneEntry.{DoneEntry}
use Rattle.kr_order.specs.Done.{done_of}
use Rattle.kr_order.specs.History.{born_in}
use Rattle.kr_order.specs.Held.{held_events, held_pairs}
use Rattle.script_lang.specs.declared.script.Event.{Event}
use Rattle.script_lang.specs.declared.script.Script.{Script}
use Rattle.script_lang.specs.Script.{IsScript}
use Rattle.kr_world.specs.World.{World}
use Rattle.kr_world.specs.Step.{step}
use Rattle.kr_world.specs.Run.{Turn, run_from, run_of}
use Rattle.kr_world.specs.Round.{IsStep, plain_events}
use Rattle.kr_world.specs.Counts.{befores_of, befores_in, world_after, BeforesAreFew}
use Rattle.kr_world.specs.Sound.{HaveBegun}
use Rattle.kr_world.proofs.steps.CountLemmas.{queries_counted, none_begun}
use Rattle.kr_world.proofs.rounds.RoundLemmas.{plain_alone, all_alone}
use Rattle.cluster_sim.specs.ClusterStanding.{ClusterStanding}
use Rattle.cluster_sim.specs.Steps.{after_step, after_steps}
use Rattle.cluster_sim.proofs.PartsLemmas.{history_of-done_of}
use Rattle.load_gen.specs.declared.summary.Summary.{Summary}
use Rattle.kronos_runs.specs.Loads.{first_cluster, last_cluster, counts_of}

-- the world after these events, and how many parts are told as before in them
abbrev world_on : World → List Event → World
world_on world events = world_after world (run_from world events)

abbrev befores_on : World → List Event → ℕ
befores_on world events = befores_in (run_from world events)

-- after the first i events
pub record IsUnderway (script : Script) (i : ℕ) (cluster : ClusterStanding) : Type 0 where
  pub whole : cluster.failed ≡ false
  pub world_is : world_on cluster.world (drop i script.events) ≡ (last_cluster script).world
  pub counted : cluster.befores + befores_on cluster.world (drop i script.events) ≡ (last_cluster script).befores
  pub begun : HaveBegun i cluster.world.clients

-- where each line is a step, the run is of the lines
run_alone : (script : Script) → All IsStep script.events → run_of script ≡ run_from (first_cluster script).world script.events
run_alone script steps =
    let first = (first_cluster script).world in
    ap (run_from first) (all_alone first script.events steps)

-- before the first one
pub first_underway : (script : Script) (cluster : ClusterStanding) → All IsStep script.events → cluster ≡ first_cluster script → IsUnderway script 0 cluster
first_underway script cluster steps is =
    let alone = sym (run_alone script steps) in
    let first : IsUnderway script 0 (first_cluster script) = record {
      whole = refl;
      world_is = ap (world_after (first_cluster script).world) alone;
      counted = zero-add (befores_on (first_cluster script).world script.events) ∙ ap befores_in alone;
      begun = none_begun script.servers script.clients;
    } in
    subst (IsUnderway script 0) (sym is) first

-- there are no more than a number of the code can count
length-run : (world : World) (events : List Event) → length (run_from world events) ≡ length events
length-run world [] = refl
length-run world (event ∷ events) = let rest = length-run (step world event).after events in omega arith

pub befores_counted : (script : Script) → BeforesAreFew → IsScript script → All IsStep script.events → length script.events ≤ 2 ^ 58 → (last_cluster script).befores < 18446744073709551616
befores_counted script law fits steps few =
    let run = run_of script in
    let alone : length run ≡ length (run_from (first_cluster script).world script.events) = ap length (run_alone script steps) in
    omega (arith, law script fits, alone, length-run (first_cluster script).world script.events, few)

befores_on-step : (world : World) (event : Event) (events : List Event) → befores_on world (event ∷ events) ≡ befores_of (step world event).parts + befores_on (step world event).after events
befores_on-step world event events =
    let outcome = step world event in
    let turn : Turn = record { before = world; event = event; outcome = outcome } in
    sum_by-cons (λ (t : Turn). befores_of t.outcome.parts) turn (run_from outcome.after events)

-- one event further
pub next_underway : (script : Script) (i : ℕ) (old new : ClusterStanding) (d : Event) → All IsStep script.events → (last_cluster script).befores < 18446744073709551616 → i < length script.events → IsUnderway script i old → new ≡ after_steps old (plain_events old.world (get_or script.events i d)) → IsUnderway script (i + 1) new
next_underway script i old new d steps few within so_far is =
    let event = get_or script.events i d in
    let one : after_steps old (plain_events old.world event) ≡ after_step old event =
    ap (after_steps old) (plain_alone old.world event (All-get_or IsStep script.events i d within steps)) in
    let rest = drop (i + 1) script.events in
    let outcome = step old.world event in
    let more : drop i script.events ≡ event ∷ rest = drop_more script.events i d within in
    let world_is : world_on outcome.after rest ≡ (last_cluster script).world = ap (world_on old.world) (sym more) ∙ so_far.world_is in
    let total : old.befores + befores_on old.world (event ∷ rest) ≡ (last_cluster script).befores = ap (λ es. old.befores + befores_on old.world es) (sym more) ∙ so_far.counted in
    let split = befores_on-step old.world event rest in
    let next : IsUnderway script (i + 1) (after_step old event) = record {
      whole = refl;
      world_is = world_is;
      counted = omega (arith, total, split, few);
      begun = queries_counted i old.world event so_far.begun;
    } in
    subst (IsUnderway script (i + 1)) (sym (is ∙ one)) next

-- and after the last one
pub last_underway : (script : Script) (i : ℕ) (cluster : ClusterStanding) → length script.events ≤ i → IsUnderway script i cluster → cluster ≡ last_cluster script
last_underway script i cluster past so_far =
    let none : drop i script.events ≡ [] = drop_all i script.events past in
    let world_is : cluster.world ≡ (last_cluster script).world = ap (world_on cluster.world) (sym none) ∙ so_far.world_is in
    let total : cluster.befores + befores_on cluster.world [] ≡ (last_cluster script).befores = ap (λ es. cluster.befores + befores_on cluster.world es) (sym none) ∙ so_far.counted in
    let befores_is : cluster.befores ≡ (last_cluster script).befores = omega (arith, total) in
    let as_is : World → Bool → ℕ → ClusterStanding = λ w b n. record { world = w; failed = b; befores = n } in
    ap (λ b. as_is cluster.world b cluster.befores) so_far.whole ∙ ap (λ w. as_is w false cluster.befores) world_is ∙ ap (as_is (last_cluster script).world false) befores_is

-- the entries of a history's journal are the history
pub entries_of_journal : (history seen : List Entry) (journal : List DoneEntry) → journal ≡ done_of history → seen ≡ map (λ (done : DoneEntry). done.entry) journal → seen ≡ history
entries_of_journal history seen journal is seen_is =
    seen_is ∙ ap (map (λ (done : DoneEntry). done.entry)) is ∙ history_of-done_of history

-- what is counted of a state after the cluster's history
pub counted_so : (calls : ℕ) (cluster : ClusterStanding) (seen : List Entry) (history packets born held pairs before : ℕ) → seen ≡ cluster.world.history → history ≡ length seen → packets ≡ length cluster.world.bag → born ≡ born_in seen → held ≡ length (held_events seen) → pairs ≡ length (held_pairs seen) → before ≡ cluster.befores → record { calls = calls; history = history; packets = packets; born = born; held = held; pairs = pairs; before = before } ≡ counts_of calls cluster
counted_so calls cluster seen history packets born held pairs before seen_is history_is packets_is born_is held_is pairs_is before_is =
    let summary : ℕ → ℕ → ℕ → ℕ → ℕ → ℕ → Summary = λ h p b e q n. record { calls = calls; history = h; packets = p; born = b; held = e; pairs = q; before = n } in
    let of : List Entry → Summary = λ entries. summary (length entries) (length cluster.world.bag) (born_in entries) (length (held_events entries)) (length (held_pairs entries)) cluster.befores in
    ap (λ h. summary h packets born held pairs before) history_is
    ∙ ap (λ p. summary (length seen) p born held pairs before) packets_is
    ∙ ap (λ b. summary (length seen) (length cluster.world.bag) b held pairs before) born_is
    ∙ ap (λ e. summary (length seen) (length cluster.world.bag) (born_in seen) e pairs before) held_is
    ∙ ap (λ q. summary (length seen) (length cluster.world.bag) (born_in seen) (length (held_events seen)) q before) pairs_is
    ∙ ap (λ n. summary (length seen) (length cluster.world.bag) (born_in seen) (length (held_events seen)) (length (held_pairs seen)) n) before_is
    ∙ ap of seen_is
