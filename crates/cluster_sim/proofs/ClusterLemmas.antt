-- What a cluster does in a step.
use Rattle.std.proofs.Common.{◌≡◌, ℕ, ◌+◌, ◌<◌, List, [], ◌∷◌, ◌++◌, length, take, get_or, drop, Bool, refl, false, sym, ap, ◌∙◌, subst, arith}
use Rattle.std.specs.Prelude.{Option, Result, Ok, Err, All}
use Rattle.std.proofs.lemmas.List.{append-nil, append_assoc, length-map, take_more}
use Rattle.std.proofs.lemmas.List.Elements.{All-weaker}
use Rattle.kr_order.specs.declared.ids.NoMemory.{NoMemory}
use Rattle.kr_order.specs.declared.history.DoneEntry.{DoneEntry}
use Rattle.kr_order.specs.declared.message.Packet.{Packet}
use Rattle.script_lang.specs.declared.script.Event.{Event}
use Rattle.kr_world.specs.declared.shown.Shown.{Shown}
use Rattle.kr_world.specs.declared.refusal.Refusal.{Refusal}
use Rattle.kr_world.specs.World.{World}
use Rattle.kr_world.specs.Step.{Told, Part, Outcome, step}
use Rattle.kr_world.specs.Counts.{befores_of}
use Rattle.kr_world.specs.Lines.{grown_line, told_lines, part_lines, shown_line, refused_line, packet_lines, step_lines}
use Rattle.kr_world.specs.Run.{lines_from}
use Rattle.kr_world.specs.Round.{after_all, round_calls, delivery_events, work_events, round_events, IsOfRound}
use Rattle.kr_world.specs.Sound.{HaveBegun}
use Rattle.kr_world.proofs.steps.CountLemmas.{AsksNothing}
use Rattle.kr_world.proofs.rounds.RoundLemmas.{lines_from-append, after_all_kept}
use Rattle.kr_world.proofs.rounds.RoundShapeLemmas.{asks_none}
use Rattle.kr_world.proofs.rounds.RoundEventLemmas.{calls_fit, deliveries_fit, works_fit}
use Rattle.script_lang.specs.Event.{IsEvent}
use Rattle.cluster_parts.specs.BagStanding.{BagStanding}
use Rattle.cluster_sim.specs.ClusterStanding.{ClusterStanding}
use Rattle.cluster_sim.specs.Steps.{after_step, after_steps, DoesSteps, DoesAll, counted}
use Rattle.cluster_sim.proofs.PartsLemmas.{callers_counted}
use Rattle.cluster_parts.specs.PartsStanding.{world_of, told_in, parts_in, lines_of}
use Rattle.cluster_sim.specs.Parts.{IsReady, Makes}
use Rattle.cluster_parts.specs.declared.parts.Parts.{Parts}
use Rattle.cluster_parts.specs.declared.parts.Noted.{Noted}

-- the lines of what was made
lines_so : (world : World) (outcome : Outcome) (made : Parts) (noting : Noted) (entries : ℕ) → entries ≡ length world.history → Makes outcome (length world.bag) made noting → lines_of entries made noting ≡ step_lines world outcome
lines_so world outcome made noting entries counted makes =
    let f : ℕ → ℕ → List Told → List Part → Option Shown → Option Refusal → ℕ → List Packet → List ℕ = λ a b told parts shown refused n packets. grown_line a b ++ told_lines told ++ part_lines parts ++ shown_line shown ++ refused_line refused ++ packet_lines n (drop n packets) in
    let history : length made.journal ≡ length outcome.after.history = sym (length-map made.journal (λ (d : DoneEntry). d.entry)) ∙ ap (λ (w : World). length w.history) makes.after in
    let packets : made.bag.packets ≡ outcome.after.bag = ap (λ (w : World). w.bag) makes.after in
    let told = told_in noting.told in
    let parts = parts_in noting.parts in
    let n = made.bag.before in
    let o = outcome in
    ap (λ a. f a (length made.journal) told parts noting.shown noting.refused n made.bag.packets) counted
    ∙ ap (λ b. f (length world.history) b told parts noting.shown noting.refused n made.bag.packets) history
    ∙ ap (λ t. f (length world.history) (length o.after.history) t parts noting.shown noting.refused n made.bag.packets) makes.told
    ∙ ap (λ p. f (length world.history) (length o.after.history) o.told p noting.shown noting.refused n made.bag.packets) makes.parts
    ∙ ap (λ s. f (length world.history) (length o.after.history) o.told o.parts s noting.refused n made.bag.packets) makes.shown
    ∙ ap (λ r. f (length world.history) (length o.after.history) o.told o.parts o.shown r n made.bag.packets) makes.refused
    ∙ ap (λ m. f (length world.history) (length o.after.history) o.told o.parts o.shown o.refused m made.bag.packets) makes.since
    ∙ ap (f (length world.history) (length o.after.history) o.told o.parts o.shown o.refused (length world.bag)) packets

-- the whole step, from parts that stand so
pub does_step : (old : ClusterStanding) (parts made : Parts) (failed : Bool) (befores : ℕ) (bag : BagStanding) (event : Event) (noting : Noted) (entries : ℕ) (before after : List ℕ) (befores' : ℕ)
    → record { world = world_of parts; failed = failed; befores = befores } ≡ old → failed ≡ false → bag ≡ record parts.bag { before = length parts.bag.packets } → entries ≡ length parts.journal
    → Makes (step (world_of (record parts { bag = bag })) event) bag.before made noting → after ≡ before ++ lines_of entries made noting → befores' ≡ counted (befores + befores_of (parts_in noting.parts))
    → DoesSteps old (event ∷ []) before (record { world = world_of made; failed = false; befores = befores' }) after
does_step old parts made failed befores bag event noting entries before after befores' view calm begun counts makes wrote more =
    let its : Makes (step (world_of parts) event) (length parts.bag.packets) made noting = subst (λ (b : BagStanding). Makes (step (world_of (record parts { bag = b })) event) b.before made noting) begun makes in
    let now : world_of parts ≡ old.world = ap (λ (s : ClusterStanding). s.world) view in
    let told : Makes (step old.world event) (length old.world.bag) made noting = subst (λ (w : World). Makes (step w event) (length w.bag) made noting) now its in
    let some : entries ≡ length old.world.history = counts ∙ sym (length-map parts.journal (λ (d : DoneEntry). d.entry)) ∙ ap (λ (w : World). length w.history) now in
    let were : befores ≡ old.befores = ap (λ (s : ClusterStanding). s.befores) view in
    let are : befores' ≡ counted (old.befores + befores_of (step old.world event).parts) =
    more ∙ ap (λ n. counted (n + befores_of (parts_in noting.parts))) were ∙ ap (λ p. counted (old.befores + befores_of p)) told.parts in
    let f : World → ℕ → ClusterStanding = λ w n. record { world = w; failed = false; befores = n } in
    record {
      whole = ap (λ (s : ClusterStanding). s.failed) (sym view) ∙ calm;
      stepped = ap (λ w. f w befores') told.after ∙ ap (f (step old.world event).after) are;
      lines = wrote ∙ ap (λ l. before ++ l) (lines_so old.world (step old.world event) made noting entries some told ∙ sym (append-nil (step_lines old.world (step old.world event))));
    }

-- ---- several steps

-- the world after several steps
pub after_steps-world : (old : ClusterStanding) (events : List Event) → (after_steps old events).world ≡ after_all old.world events
after_steps-world old [] = refl
after_steps-world old (event ∷ events) = after_steps-world (after_step old event) events

-- the cluster after some steps and then others
pub after_steps-append : (old : ClusterStanding) (xs ys : List Event) → after_steps old (xs ++ ys) ≡ after_steps (after_steps old xs) ys
after_steps-append old [] ys = refl
after_steps-append old (x ∷ xs) ys = after_steps-append (after_step old x) xs ys

-- it has not failed
pub after_steps-failed : (old : ClusterStanding) (events : List Event) → old.failed ≡ false → (after_steps old events).failed ≡ false
after_steps-failed old [] whole = whole
after_steps-failed old (event ∷ events) whole = after_steps-failed (after_step old event) events refl

pub still_whole : (old new : ClusterStanding) (events : List Event) (before after : List ℕ) → DoesSteps old events before new after → new.failed ≡ false
still_whole old new events before after does =
    ap (λ (s : ClusterStanding). s.failed) does.stepped ∙ after_steps-failed old events does.whole

-- which world it stands for
pub now_at : (old new : ClusterStanding) (events : List Event) (before after : List ℕ) → DoesSteps old events before new after → new.world ≡ after_all old.world events
now_at old new events before after does =
    ap (λ (s : ClusterStanding). s.world) does.stepped ∙ after_steps-world old events

-- no steps
pub does_nothing : (old : ClusterStanding) (before : List ℕ) → old.failed ≡ false → DoesSteps old [] before old before
does_nothing old before whole = record { whole = whole; stepped = refl; lines = sym (append-nil before) }

-- some steps and then others
pub does_append : (old mid new : ClusterStanding) (xs ys : List Event) (before between after : List ℕ) → DoesSteps old xs before mid between → DoesSteps mid ys between new after → DoesSteps old (xs ++ ys) before new after
does_append old mid new xs ys before between after one two =
    let first = lines_from old.world xs in
    record {
      whole = one.whole;
      stepped = two.stepped ∙ ap (λ s. after_steps s ys) one.stepped ∙ sym (after_steps-append old xs ys);
      lines = two.lines ∙ ap (λ l. l ++ lines_from mid.world ys) one.lines ∙ append_assoc before first (lines_from mid.world ys) ∙ ap (λ w. before ++ (first ++ lines_from w ys)) (now_at old mid xs before between one) ∙ ap (λ l. before ++ l) (sym (lines_from-append old.world xs ys));
    }

-- one step more
pub does_more : (old mid new : ClusterStanding) (events : List Event) (i : ℕ) (d : Event) (before between after : List ℕ) → i < length events → DoesSteps old (take i events) before mid between → DoesSteps mid (get_or events i d ∷ []) between new after → DoesSteps old (take (i + 1) events) before new after
does_more old mid new events i d before between after within one two =
    subst (λ es. DoesSteps old es before new after) (sym (take_more events i d within)) (does_append old mid new (take i events) (get_or events i d ∷ []) before between after one two)

-- others that may find no memory
pub onto_append : {U : Type 0} (old mid new : ClusterStanding) (xs ys : List Event) (before between after : List ℕ) (result : Result U NoMemory) → DoesSteps old xs before mid between → DoesAll mid ys between result new after → DoesAll old (xs ++ ys) before result new after
onto_append old mid new xs ys before between after (Ok done) one two = does_append old mid new xs ys before between after one two
onto_append old mid new xs ys before between after (Err stop) one two = two

-- the steps of a round begin no query
pub begun_still : (n : ℕ) (old new : ClusterStanding) (events : List Event) (before after : List ℕ) → DoesSteps old events before new after → All IsOfRound events → HaveBegun n old.world.clients → HaveBegun n new.world.clients
begun_still n old new events before after does all known =
    let asks : All AsksNothing events = All-weaker IsOfRound AsksNothing asks_none events all in
    subst (λ (w : World). HaveBegun n w.clients) (sym (now_at old new events before after does)) (after_all_kept n old.world events asks known)

-- a round, part by part
pub does_round : {U : Type 0} (start first mid last new : ClusterStanding) (works : List Event) (before one two after : List ℕ) (result : Result U NoMemory)
    → start ≡ first → DoesSteps start (round_calls start.world) before mid one → DoesSteps mid (delivery_events mid.world) one last two → works ≡ work_events first.world → DoesAll last works two result new after
    → DoesAll first (round_events first.world) before result new after
does_round start first mid last new works before one two after result same called delivered work worked =
    let w = first.world in
    let calls = round_calls w in
    let deliveries = delivery_events mid.world in
    let begun = subst (λ s. DoesSteps s (round_calls s.world) before mid one) same called in
    let world : mid.world ≡ after_all w calls = now_at first mid calls before one begun in
    let rest = onto_append mid last new deliveries works one two after result delivered worked in
    let all = onto_append first mid new calls (deliveries ++ works) before one after result begun rest in
    let is : calls ++ (deliveries ++ works) ≡ round_events w = ap (λ v. calls ++ (delivery_events v ++ works)) world ∙ ap (λ ws. calls ++ (delivery_events (after_all w calls) ++ ws)) work in
    subst (λ es. DoesAll first es before result new after) is all

-- ---- what a cluster gives for a round

-- it has not failed
pub calm : (old : ClusterStanding) (parts : Parts) (failed : Bool) (befores : ℕ) → record { world = world_of parts; failed = failed; befores = befores } ≡ old → old.failed ≡ false → failed ≡ false
calm old parts failed befores view whole = ap (λ (s : ClusterStanding). s.failed) view ∙ whole

-- the events could stand in a script
pub calls_are_events : (parts : Parts) (settled : ℕ) (events : List Event) → IsReady parts settled → events ≡ round_calls (world_of parts) → All IsEvent events
calls_are_events parts settled events ready are =
    subst (All IsEvent) (sym are) (calls_fit (world_of parts) ready.rest.whole.sound (omega (arith, callers_counted parts, ready.callers)))

pub deliveries_are_events : (parts : Parts) (settled : ℕ) (events : List Event) → IsReady parts settled → events ≡ delivery_events (world_of parts) → All IsEvent events
deliveries_are_events parts settled events ready are =
    subst (All IsEvent) (sym are) (deliveries_fit (world_of parts) ready.rest.whole.sound)

pub works_are_events : (parts : Parts) (settled : ℕ) (events : List Event) → IsReady parts settled → events ≡ work_events (world_of parts) → All IsEvent events
works_are_events parts settled events ready are =
    subst (All IsEvent) (sym are) (works_fit (world_of parts) ready.rest.whole.sound)
