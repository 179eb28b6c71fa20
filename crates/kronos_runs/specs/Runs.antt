-- What running a script writes.
use Rattle.std.specs.Prelude.{◌≡◌, ℕ, List, ◌++◌, Option, Result, Ok, Err}
use Rattle.std.specs.Io.KnownBytes.{Appends}
use Rattle.kr_text.specs.Writes.{TookBeforeFault}
use Rattle.script_lang.specs.declared.script.Event.{Event}
use Rattle.kr_world.specs.World.{World}
use Rattle.kr_world.specs.Lines.{end_lines}
use Rattle.kr_world.specs.Round.{after_line, steps_of}
use Rattle.kr_world.specs.Run.{run_from, lines_of, text_from}
use Rattle.cluster_sim.specs.ClusterStanding.{ClusterStanding}
use Rattle.kronos_runs.specs.declared.exit.Exit.{Exit}
use Rattle.kronos_runs.specs.declared.exit.Exit.TheVariants.{WriteFault, NoMemory}
use Rattle.kronos_runs.specs.declared.run.RunError.{RunError}
use Rattle.kronos_runs.specs.declared.run.RunError.TheVariants.{Write, Memory}
use Rattle.kronos_runs.specs.Due.{TookFront}

-- the text was written; else a front of it, and not all: before a fault of the sink, or before there was no memory
abbrev pub IsWritten : {U : Type 0} → List ℕ → Result U RunError → Option (List ℕ) → Option (List ℕ) → ℕ → ℕ → Type 0
IsWritten text (Ok done) held held' faults faults' = Appends held held' text × (faults' ≡ faults)
IsWritten text (Err Write) held held' faults faults' = TookBeforeFault text held held' faults faults'
IsWritten text (Err Memory) held held' faults faults' = TookFront text held held' × (faults' ≡ faults)

-- the text that these lines have from a world on
abbrev pub text_on : World → List Event → List ℕ
text_on world events = text_from world (run_from world (steps_of world events))

-- the plain steps of a line were done; what is printed of them came behind what was gathered, and what is no longer
-- gathered was written
pub record DoesTurn (old : ClusterStanding) (event : Event) (gathered : List ℕ) (new : ClusterStanding) (gathered' : List ℕ)
    (held held' : Option (List ℕ)) : Type 0 where
  pub after : new.world ≡ after_line old.world event
  pub written : List ℕ
  pub taken : Appends held held' written
  pub lines : gathered ++ lines_of old.world event ≡ written ++ gathered'

abbrev pub Turns : {U : Type 0} → ClusterStanding → Event → List ℕ → Result U RunError → ClusterStanding → List ℕ → Option (List ℕ)
    → Option (List ℕ) → ℕ → ℕ → Type 0
Turns old event gathered (Ok done) new gathered' held held' faults faults' =
    DoesTurn old event gathered new gathered' held held' × (faults' ≡ faults)
Turns old event gathered (Err Write) new gathered' held held' faults faults' =
    TookBeforeFault (gathered ++ lines_of old.world event) held held' faults faults'
Turns old event gathered (Err Memory) new gathered' held held' faults faults' = (held' ≡ held) × (faults' ≡ faults)

-- the events' steps were done; what was written, what is gathered and the lines of the history at the end are their text
pub record RanEvents (old : ClusterStanding) (events : List Event) (new : ClusterStanding) (gathered' : List ℕ)
    (held held' : Option (List ℕ)) : Type 0 where
  pub written : List ℕ
  pub taken : Appends held held' written
  pub text : text_on old.world events ≡ written ++ gathered' ++ end_lines new.world.history

abbrev pub RunsEvents : {U : Type 0} → ClusterStanding → List Event → Result U RunError → ClusterStanding → List ℕ → Option (List ℕ)
    → Option (List ℕ) → ℕ → ℕ → Type 0
RunsEvents old events (Ok done) new gathered' held held' faults faults' =
    RanEvents old events new gathered' held held' × (faults' ≡ faults)
RunsEvents old events (Err Write) new gathered' held held' faults faults' =
    TookBeforeFault (text_on old.world events) held held' faults faults'
RunsEvents old events (Err Memory) new gathered' held held' faults faults' =
    TookFront (text_on old.world events) held held' × (faults' ≡ faults)

-- the exit of a call that writes, where it ends so at Ok
abbrev pub exit_after : {U : Type 0} → Result U RunError → Exit → Exit
exit_after (Ok done) exit = exit
exit_after (Err Write) exit = WriteFault
exit_after (Err Memory) exit = NoMemory
