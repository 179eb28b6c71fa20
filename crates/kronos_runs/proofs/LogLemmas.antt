-- How the end of an import follows from what was written.
use Rattle.std.proofs.Common.{◌≡◌, ℕ, ◌+◌, ◌≤◌, inr, List, [], ◌∷◌, ◌++◌, length, take, drop, refl, sym, ap, ◌∙◌, subst, arith, append_assoc}
use Rattle.std.specs.Prelude.{codes, flat_map, Option, Result, Ok, Err}
use Rattle.std.specs.Fmt.{decimal}
use Rattle.std.specs.Io.KnownBytes.{Appends}
use Rattle.std.proofs.KnownBytes.{Appends-nil, Appends-trans}
use Rattle.std.proofs.lemmas.List.{length-append, append-nil, take-append-drop}
use Rattle.kr_order.specs.declared.ids.EventId.{EventId}
use Rattle.clock_import.specs.declared.imported.Clocked.{Clocked}
use Rattle.clock_import.specs.Text.{event_line, event_lines, clock_text, pair_line, order_text, cyclic_line}
use Rattle.script_lang.specs.Line.{line}
use Rattle.kronos_runs.specs.declared.exit.Exit.TheVariants.{Cyclic}
use Rattle.kronos_runs.specs.declared.run.RunError.{RunError}
use Rattle.kronos_runs.specs.declared.run.RunError.TheVariants.{Write, Memory}
use Rattle.kronos_runs.specs.Logs.{IsCycleOf, EndsOnLog}
use Rattle.kronos_runs.specs.Runs.{IsWritten, exit_after}
use Rattle.kronos_runs.proofs.RunLemmas.{took_behind, front_behind}

-- the line of its first cycle
pub cycle_ends : {U : Type 0} (result : Result U RunError) (n : ℕ) (bytes text : List ℕ) (held held' : Option (List ℕ))
    (faults faults' : ℕ) → IsCycleOf bytes n text → IsWritten text result held held' faults faults'
    → EndsOnLog (exit_after result (Cyclic n)) bytes held held' faults faults'
cycle_ends {U} (Ok done) n bytes text held held' faults faults' closes wrote = (text, closes, wrote.0, wrote.1)
cycle_ends {U} (Err Write) n bytes text held held' faults faults' closes took = (text, inr (inr (n, closes)), took)
cycle_ends {U} (Err Memory) n bytes text held held' faults faults' closes took = (took.1, inr (text, inr (inr (n, closes)), took.0))

-- that line is never empty
pub cyclic_line-some : (n : ℕ) → 1 ≤ length (cyclic_line n)
cyclic_line-some n = omega (arith, length-append (codes "cyclic line " ++ decimal n) (10 ∷ []))

-- the lines of events are those of the first of them, and then of the others
pub event_lines-append : (n : ℕ) (first others : List Clocked) → event_lines n (first ++ others) ≡ event_lines n first ++ event_lines (n + length first) others
event_lines-append n [] others = let same : n ≡ n + 0 = omega arith in ap (λ k. event_lines k others) same
event_lines-append n (clocked ∷ first) others =
    let more : (n + 1) + length first ≡ n + length (clocked ∷ first) = omega arith in
    ap (λ t. event_line n clocked ++ t) (event_lines-append (n + 1) first others ∙ ap (λ k. event_lines (n + 1) first ++ event_lines k others) more) ∙ sym (append_assoc (event_line n clocked) (event_lines (n + 1) first) (event_lines (n + length (clocked ∷ first)) others))

-- they are not empty where there is an event
pub event_lines-some : (n : ℕ) (events : List Clocked) → 1 ≤ length events → 1 ≤ length (event_lines n events)
event_lines-some n [] some = absurd (omega arith)
event_lines-some n (clocked ∷ more) some =
    let text = codes "event " ++ decimal n ++ codes " p" ++ decimal clocked.process ++ codes " clock " ++ clock_text clocked.clock in
    omega (arith, length-append (line text) (event_lines (n + 1) more), length-append text (10 ∷ []))

-- what is printed of the pairs is never empty
pub order_text-some : (pairs : List (EventId × EventId)) → 1 ≤ length (order_text pairs)
order_text-some pairs =
    omega (arith, length-append (line (codes "pairs " ++ decimal (length pairs)) ++ flat_map pair_line pairs) (line (codes "end")))

-- after the first i events: their lines were written, and those of the rest are to come
pub record IsWrittenTo (events : List Clocked) (i : ℕ) (rest : List Clocked) (held held' : Option (List ℕ)) (faults faults' : ℕ) : Type 0 where
  pub many : i + length rest ≡ length events
  pub written : List ℕ
  pub taken : Appends held held' written
  pub lines : event_lines 1 events ≡ written ++ event_lines (i + 1) rest
  pub calm : faults' ≡ faults

-- at first
pub none_written : (events : List Clocked) (held : Option (List ℕ)) (faults : ℕ) → IsWrittenTo events 0 events held held faults faults
none_written events held faults =
    record { many = omega arith; written = []; taken = Appends-nil held; lines = refl; calm = refl }

-- the lines, where those of the first of the rest are next
lines_next : (events : List Clocked) (i : ℕ) (rest first others : List Clocked) (written : List ℕ) → rest ≡ first ++ others → event_lines 1 events ≡ written ++ event_lines (i + 1) rest → event_lines 1 events ≡ written ++ event_lines (i + 1) first ++ event_lines ((i + length first) + 1) others
lines_next events i rest first others written cut is =
    let next : (i + 1) + length first ≡ (i + length first) + 1 = omega arith in
    is ∙ ap (λ es. written ++ event_lines (i + 1) es) cut ∙ ap (λ t. written ++ t) (event_lines-append (i + 1) first others ∙ ap (λ k. event_lines (i + 1) first ++ event_lines k others) next) ∙ sym (append_assoc written (event_lines (i + 1) first) (event_lines ((i + length first) + 1) others))

-- a list in two parts
pub cut_at : {X : Type 0} (m : ℕ) (rest first others : List X) → first ≡ take m rest → others ≡ drop m rest → rest ≡ first ++ others
cut_at {X} m rest first others front back =
    sym (take-append-drop m rest) ∙ ap (λ f. f ++ drop m rest) (sym front) ∙ ap (λ b. first ++ b) (sym back)

-- and some more
pub more_written : (events : List Clocked) (i : ℕ) (rest first others : List Clocked) (held mid held' : Option (List ℕ)) (faults midway faults' : ℕ) → rest ≡ first ++ others → IsWrittenTo events i rest held mid faults midway → Appends mid held' (event_lines (i + 1) first) × (faults' ≡ midway) → IsWrittenTo events (i + length first) others held held' faults faults'
more_written events i rest first others held mid held' faults midway faults' cut so_far wrote =
    record {
      many = let many = so_far.many in omega (arith, ap length cut, length-append first others);
      written = so_far.written ++ event_lines (i + 1) first;
      taken = Appends-trans held mid held' so_far.written (event_lines (i + 1) first) so_far.taken wrote.0;
      lines = lines_next events i rest first others so_far.written cut so_far.lines;
      calm = wrote.1 ∙ so_far.calm;
    }

-- or a write failed, or there was no memory
pub no_more_written : (U V : Type 0) (stop : RunError) (events : List Clocked) (i : ℕ) (rest first others : List Clocked) (held mid held' : Option (List ℕ)) (faults midway faults' : ℕ) → rest ≡ first ++ others → IsWrittenTo events i rest held mid faults midway → IsWritten {U = U} (event_lines (i + 1) first) (Err stop) mid held' midway faults' → IsWritten {U = V} (event_lines 1 events) (Err stop) held held' faults faults'
no_more_written U V Write events i rest first others held mid held' faults midway faults' cut so_far took =
    took_behind so_far.written (event_lines (i + 1) first) (event_lines ((i + length first) + 1) others) (event_lines 1 events) held mid held' faults midway faults' (lines_next events i rest first others so_far.written cut so_far.lines) so_far.taken so_far.calm took
no_more_written U V Memory events i rest first others held mid held' faults midway faults' cut so_far took =
    (front_behind so_far.written (event_lines (i + 1) first) (event_lines ((i + length first) + 1) others) (event_lines 1 events) held mid held' (lines_next events i rest first others so_far.written cut so_far.lines) so_far.taken took.0, took.1 ∙ so_far.calm)

-- all are written
pub all_lines_written : (events : List Clocked) (i : ℕ) (rest : List Clocked) (held held' : Option (List ℕ)) (faults faults' : ℕ) → length rest ≡ 0 → IsWrittenTo events i rest held held' faults faults' → Appends held held' (event_lines 1 events) × (faults' ≡ faults)
all_lines_written events i [] held held' faults faults' none all =
    (subst (Appends held held') (sym (all.lines ∙ append-nil all.written)) all.taken, all.calm)
all_lines_written events i (clocked ∷ more) held held' faults faults' none all = absurd (omega arith)

-- the text stops in its first part
pub stopped_first : (U V : Type 0) (stop : RunError) (first rest : List ℕ) (held held' : Option (List ℕ)) (faults faults' : ℕ) → IsWritten {U = U} first (Err stop) held held' faults faults' → IsWritten {U = V} (first ++ rest) (Err stop) held held' faults faults'
stopped_first U V Write first rest held held' faults faults' took =
    took_behind [] first rest (first ++ rest) held held held' faults faults faults' refl (Appends-nil held) refl took
stopped_first U V Memory first rest held held' faults faults' took =
    (front_behind [] first rest (first ++ rest) held held held' refl (Appends-nil held) took.0, took.1)
