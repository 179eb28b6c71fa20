-- A run that is part way: what was written so far, what is gathered, and what the rest of its text is.
use Rattle.std.proofs.Common.{◌≡◌, ℕ, ◌+◌, ◌<◌, ◌≤◌, List, [], ◌∷◌, ◌++◌, length, get_or, take, drop, refl, sym, ap, ◌∙◌, subst, arith, append_assoc, add-one, drop-cons, length-drop}
use Rattle.std.specs.Prelude.{false, codes, Option, Result, Ok, Err}
use Rattle.std.specs.Fmt.{decimal}
use Rattle.std.specs.Io.KnownBytes.{Appends}
use Rattle.std.proofs.KnownBytes.{Appends-nil, Appends-trans}
use Rattle.std.proofs.lemmas.List.{append-nil, length-append, take_at, take-append-drop}
use Rattle.kr_text.specs.Causes.{Rose}
use Rattle.kr_text.specs.Writes.{TookBeforeFault}
use Rattle.kr_order.specs.declared.history.Entry.{Entry}
use Rattle.kr_order.specs.Done.{done_of}
use Rattle.script_lang.specs.declared.script.Event.{Event}
use Rattle.script_lang.specs.declared.script.Script.{Script}
use Rattle.script_lang.specs.Line.{line}
use Rattle.kr_world.specs.World.{World, first_world}
use Rattle.kr_world.specs.Sound.{HaveBegun}
use Rattle.kr_world.specs.Lines.{step_lines, done_lines, end_lines}
use Rattle.kr_world.specs.Round.{plain_events, after_line, steps_of}
use Rattle.kr_world.specs.Run.{Turn, run_from, run_of, lines_of, text_from, text_of}
use Rattle.kr_world.proofs.rounds.RoundLemmas.{text_of-line}
use Rattle.kr_world.proofs.rounds.RoundCountLemmas.{line_counted}
use Rattle.cluster_sim.specs.ClusterStanding.{ClusterStanding}
use Rattle.cluster_sim.specs.Steps.{DoesSteps}
use Rattle.cluster_sim.proofs.ClusterLemmas.{after_steps-world}
use Rattle.kronos_runs.specs.Due.{TookFront}
use Rattle.kronos_runs.specs.Runs.{text_on, DoesTurn, Turns, RanEvents, RunsEvents, IsWritten}
use Rattle.kronos_runs.specs.declared.run.RunError.{RunError}
use Rattle.kronos_runs.specs.declared.run.RunError.TheVariants.{Write, Memory}

-- the text in two parts: what was written and a front of the next piece, and what is to come
cut_text : (written piece rest text : List ℕ) (n : ℕ) → text ≡ written ++ piece ++ rest → text ≡ (written ++ take n piece) ++ (drop n piece ++ rest)
cut_text written piece rest text n is =
    is ∙ ap (λ p. written ++ p ++ rest) (sym (take-append-drop n piece)) ∙ ap (λ t. t ++ rest) (sym (append_assoc written (take n piece) (drop n piece))) ∙ append_assoc (written ++ take n piece) (drop n piece) rest

-- a front of the next piece, behind what was written, is a front of the text
record IsFrontCut (text : List ℕ) (n : ℕ) (front : List ℕ) : Type 0 where
  short : n < length text
  is : take n text ≡ front

front_cut : (written piece rest text : List ℕ) (n : ℕ) → text ≡ written ++ piece ++ rest → n < length piece → IsFrontCut text (length (written ++ take n piece)) (written ++ take n piece)
front_cut written piece rest text n is below =
    let front = written ++ take n piece in
    let cut = cut_text written piece rest text n is in
    let whole : length text ≡ length front + length (drop n piece ++ rest) = ap length cut ∙ length-append front (drop n piece ++ rest) in
    record {
      short = omega (arith, whole, length-append (drop n piece) rest, length-drop n piece);
      is = ap (take (length front)) cut ∙ take_at front (drop n piece ++ rest) (length front) refl;
    }

-- a write that failed behind what was written
pub took_behind : (written piece rest text : List ℕ) (held mid held' : Option (List ℕ)) (faults midway faults' : ℕ) → text ≡ written ++ piece ++ rest → Appends held mid written → midway ≡ faults → TookBeforeFault piece mid held' midway faults' → TookBeforeFault text held held' faults faults'
took_behind written piece rest text held mid held' faults midway faults' is before calm took =
    let cut = front_cut written piece rest text took.count is took.short in
    record {
      count = length (written ++ take took.count piece);
      short = cut.short;
      taken = subst (Appends held held') (sym cut.is) (Appends-trans held mid held' written (take took.count piece) before took.taken);
      rose = subst (λ f. Rose f faults') calm took.rose;
    }

-- a front that was written behind what was written
pub front_behind : (written piece rest text : List ℕ) (held mid held' : Option (List ℕ)) → text ≡ written ++ piece ++ rest → Appends held mid written → TookFront piece mid held' → TookFront text held held'
front_behind written piece rest text held mid held' is before took =
    let cut = front_cut written piece rest text took.count is took.short in
    record {
      count = length (written ++ take took.count piece);
      short = cut.short;
      taken = subst (Appends held held') (sym cut.is) (Appends-trans held mid held' written (take took.count piece) before took.taken);
    }

-- what was written is a front where more is to come
pub front_written : (written rest text : List ℕ) (held held' : Option (List ℕ)) → text ≡ written ++ rest → 1 ≤ length rest → Appends held held' written → TookFront text held held'
front_written written rest text held held' is some taken =
    record {
      count = length written;
      short = omega (arith, ap length is, length-append written rest);
      taken = subst (Appends held held') (sym (ap (take (length written)) is ∙ take_at written rest (length written) refl)) taken;
    }

-- nothing was written of a text that has something
pub front_nothing : (text : List ℕ) (held : Option (List ℕ)) → 1 ≤ length text → TookFront text held held
front_nothing text held some = record { count = 0; short = some; taken = Appends-nil held }

-- the lines of the history are never empty
pub end_lines-some : (history : List Entry) → 1 ≤ length (end_lines history)
end_lines-some history =
    omega (arith, length-append (line (codes "history " ++ decimal (length history)) ++ done_lines (done_of history)) (line (codes "end")))

-- so is no text
pub text_from-some : (world : World) (turns : List Turn) → 1 ≤ length (text_from world turns)
text_from-some world [] = end_lines-some world.history
text_from-some world (turn ∷ turns) =
    omega (arith, length-append (step_lines turn.before turn.outcome) (text_from turn.outcome.after turns), text_from-some turn.outcome.after turns)

-- a line was done, and what is printed of it is gathered
pub line_gathered : (old new : ClusterStanding) (event : Event) (gathered gathered' : List ℕ) (held : Option (List ℕ)) → DoesSteps old (plain_events old.world event) gathered new gathered' → DoesTurn old event gathered new gathered' held held
line_gathered old new event gathered gathered' held does =
    record {
      after = ap (λ (c : ClusterStanding). c.world) does.stepped ∙ after_steps-world old (plain_events old.world event);
      written = [];
      taken = Appends-nil held;
      lines = sym does.lines;
    }

-- and then all that was gathered was written
pub all_written : (old new : ClusterStanding) (event : Event) (gathered gathered' piece left : List ℕ) (held held' : Option (List ℕ)) → DoesTurn old event gathered new gathered' held held → piece ≡ gathered ++ lines_of old.world event → left ≡ [] → Appends held held' piece → DoesTurn old event gathered new left held held'
all_written old new event gathered gathered' piece left held held' turn is none taken =
    record {
      after = turn.after;
      written = piece;
      taken = taken;
      lines = sym is ∙ sym (append-nil piece) ∙ ap (λ l. piece ++ l) (sym none);
    }

-- after the first i lines: this was written, this is gathered, the cluster stands so, and the rest of the text is to come
pub record IsPartWay (first : ClusterStanding) (events : List Event) (i : ℕ) (cluster : ClusterStanding) (gathered : List ℕ) (held held' : Option (List ℕ)) (faults faults' : ℕ) : Type 0 where
  pub written : List ℕ
  pub taken : Appends held held' written
  pub rest : text_on first.world events ≡ written ++ (gathered ++ text_on cluster.world (drop i events))
  pub calm : faults' ≡ faults
  pub begun : HaveBegun i cluster.world.clients

-- the text of the rest begins with what is printed of the next line
text_on-line : (events : List Event) (i : ℕ) (world : World) (d : Event) → i < length events → text_on world (drop i events) ≡ lines_of world (get_or events i d) ++ text_on (after_line world (get_or events i d)) (drop (i + 1) events)
text_on-line events i world d within =
    let event = get_or events i d in
    let front : drop i events ≡ event ∷ drop (i + 1) events = rw (add-one, drop-cons events i d) refl in
    ap (text_on world) front ∙ text_of-line world event (drop (i + 1) events)

-- the text, where the next line's comes behind what is gathered
text_next : (first : ClusterStanding) (events : List Event) (i : ℕ) (old : ClusterStanding) (gathered written : List ℕ) (d : Event) → i < length events → text_on first.world events ≡ written ++ (gathered ++ text_on old.world (drop i events)) → text_on first.world events ≡ written ++ (gathered ++ lines_of old.world (get_or events i d)) ++ text_on (after_line old.world (get_or events i d)) (drop (i + 1) events)
text_next first events i old gathered written d within is =
    let event = get_or events i d in
    let lines = lines_of old.world event in
    let rest = text_on (after_line old.world event) (drop (i + 1) events) in
    is ∙ ap (λ t. written ++ (gathered ++ t)) (text_on-line events i old.world d within) ∙ ap (λ t. written ++ t) (sym (append_assoc gathered lines rest)) ∙ sym (append_assoc written (gathered ++ lines) rest)

-- one line further
pub one_further : (first : ClusterStanding) (events : List Event) (i : ℕ) (old new : ClusterStanding) (gathered gathered' : List ℕ) (d : Event) (held mid held' : Option (List ℕ)) (faults midway faults' : ℕ) → i < length events → IsPartWay first events i old gathered held mid faults midway → DoesTurn old (get_or events i d) gathered new gathered' mid held' → faults' ≡ midway → IsPartWay first events (i + 1) new gathered' held held' faults faults'
one_further first events i old new gathered gathered' d held mid held' faults midway faults' within so_far turn calm =
    let event = get_or events i d in
    let lines = lines_of old.world event in
    let now : new.world ≡ after_line old.world event = turn.after in
    let rest = text_on new.world (drop (i + 1) events) in
    let next = text_next first events i old gathered so_far.written d within so_far.rest in
    let all : text_on first.world events ≡ so_far.written ++ (gathered ++ lines) ++ rest = next ∙ ap (λ w. so_far.written ++ (gathered ++ lines) ++ text_on w (drop (i + 1) events)) (sym now) in
    let moved : so_far.written ++ (gathered ++ lines) ++ rest ≡ (so_far.written ++ turn.written) ++ (gathered' ++ rest) = ap (λ t. so_far.written ++ t ++ rest) turn.lines ∙ ap (λ t. t ++ rest) (sym (append_assoc so_far.written turn.written gathered')) ∙ append_assoc (so_far.written ++ turn.written) gathered' rest in
    record {
      written = so_far.written ++ turn.written;
      taken = Appends-trans held mid held' so_far.written turn.written so_far.taken turn.taken;
      rest = all ∙ moved;
      calm = calm ∙ so_far.calm;
      begun = subst (λ w. HaveBegun (i + 1) w.clients) (sym now) (line_counted i old.world event so_far.begun);
    }

-- a write failed at the next line
pub fault_further : (first : ClusterStanding) (events : List Event) (i : ℕ) (old : ClusterStanding) (gathered : List ℕ) (d : Event) (held mid held' : Option (List ℕ)) (faults midway faults' : ℕ) → i < length events → IsPartWay first events i old gathered held mid faults midway → TookBeforeFault (gathered ++ lines_of old.world (get_or events i d)) mid held' midway faults' → TookBeforeFault (text_on first.world events) held held' faults faults'
fault_further first events i old gathered d held mid held' faults midway faults' within so_far took =
    let event = get_or events i d in
    took_behind so_far.written (gathered ++ lines_of old.world event) (text_on (after_line old.world event) (drop (i + 1) events)) (text_on first.world events) held mid held' faults midway faults' (text_next first events i old gathered so_far.written d within so_far.rest) so_far.taken so_far.calm took

-- there was no memory for the next line
pub memory_further : (first : ClusterStanding) (events : List Event) (i : ℕ) (old : ClusterStanding) (gathered : List ℕ) (held mid held' : Option (List ℕ)) (faults midway faults' : ℕ) → IsPartWay first events i old gathered held mid faults midway → held' ≡ mid → faults' ≡ midway → TookFront (text_on first.world events) held held' × (faults' ≡ faults)
memory_further first events i old gathered held mid held' faults midway faults' so_far kept calm =
    let rest = text_on old.world (drop i events) in
    let some : 1 ≤ length rest = text_from-some old.world (run_from old.world (steps_of old.world (drop i events))) in
    let more : 1 ≤ length (gathered ++ rest) = omega (arith, length-append gathered rest) in
    (front_written so_far.written (gathered ++ rest) (text_on first.world events) held held' so_far.rest more (subst (λ h. Appends held h so_far.written) (sym kept) so_far.taken), calm ∙ so_far.calm)

-- a text behind one that was written
pub went_on : {U : Type 0} (result : Result U RunError) (first rest : List ℕ) (held mid held' : Option (List ℕ)) (faults midway faults' : ℕ) → Appends held mid first → midway ≡ faults → IsWritten rest result mid held' midway faults' → IsWritten (first ++ rest) result held held' faults faults'
went_on {U} (Ok done) first rest held mid held' faults midway faults' before calm wrote =
    (Appends-trans held mid held' first rest before wrote.0, wrote.1 ∙ calm)
went_on {U} (Err Write) first rest held mid held' faults midway faults' before calm took =
    took_behind first rest [] (first ++ rest) held mid held' faults midway faults' (sym (append-nil (first ++ rest))) before calm took
went_on {U} (Err Memory) first rest held mid held' faults midway faults' before calm took =
    (front_behind first rest [] (first ++ rest) held mid held' (sym (append-nil (first ++ rest))) before took.0, took.1 ∙ calm)

-- the text of a script's run is never empty
pub text_of-some : (script : Script) → 1 ≤ length (text_of script)
text_of-some script = text_from-some (first_world script.servers script.clients) (run_of script)

-- the text of a cluster that begins is that of the run
text_of_first : (script : Script) (first : ClusterStanding) → first ≡ record { world = first_world script.servers script.clients; failed = false; befores = 0 } → text_on first.world script.events ≡ text_of script
text_of_first script first is = ap (λ (c : ClusterStanding). text_on c.world script.events) is

-- a line was not done, or what is printed of it not written
pub step_stopped : (U V : Type 0) (stop : RunError) (first : ClusterStanding) (events : List Event) (i : ℕ) (old new : ClusterStanding) (gathered gathered' : List ℕ) (event : Event) (held mid held' : Option (List ℕ)) (faults midway faults' : ℕ) → i < length events → event ≡ get_or events i event → IsPartWay first events i old gathered held mid faults midway → Turns {U = U} old event gathered (Err stop) new gathered' mid held' midway faults' → RunsEvents {U = V} first events (Err stop) new gathered' held held' faults faults'
step_stopped U V Write first events i old new gathered gathered' event held mid held' faults midway faults' within is so_far took =
    fault_further first events i old gathered event held mid held' faults midway faults' within so_far (subst (λ e. TookBeforeFault (gathered ++ lines_of old.world e) mid held' midway faults') is took)
step_stopped U V Memory first events i old new gathered gathered' event held mid held' faults midway faults' within is so_far kept =
    memory_further first events i old gathered held mid held' faults midway faults' so_far kept.0 kept.1

-- how the end of a run follows from its steps and its last lines
pub ended : {U : Type 0} (script : Script) (first last : ClusterStanding) (result : Result U RunError) (gathered : List ℕ) (held mid held' : Option (List ℕ)) (faults midway faults' : ℕ) → first ≡ record { world = first_world script.servers script.clients; failed = false; befores = 0 } → RanEvents first script.events last gathered held mid → midway ≡ faults → IsWritten (gathered ++ end_lines last.world.history) result mid held' midway faults' → IsWritten (text_of script) result held held' faults faults'
ended {U} script first last result gathered held mid held' faults midway faults' is ran calm wrote =
    let ending = end_lines last.world.history in
    let text : text_of script ≡ ran.written ++ (gathered ++ ending) = sym (text_of_first script first is) ∙ ran.text ∙ append_assoc ran.written gathered ending in
    subst (λ t. IsWritten t result held held' faults faults') (sym text) (went_on result ran.written (gathered ++ ending) held mid held' faults midway faults' ran.taken calm wrote)
