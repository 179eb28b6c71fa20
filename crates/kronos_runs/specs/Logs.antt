-- What text is due for the bytes of a log, and what the end of its import says of the sink that it was written to.
use Rattle.std.specs.Prelude.{◌≡◌, ◌⊎◌, ℕ, List, Option}
use Rattle.std.specs.Io.KnownBytes.{Appends, Keeps}
use Rattle.kr_text.specs.Writes.{TookBeforeFault}
use Rattle.clock_import.specs.Reading.{IsBadLine}
use Rattle.clock_import.specs.Imported.{IsCyclicAt}
use Rattle.clock_import.specs.Text.{IsTextOf, cyclic_line}
use Rattle.kronos_runs.specs.declared.exit.Exit.{Exit}
use Rattle.kronos_runs.specs.declared.exit.Exit.TheVariants.{Done, BadLine, WriteFault, NoMemory, Cyclic}
use Rattle.kronos_runs.specs.Due.{TookFront, bad_line}

-- line n of these bytes is the first that is in no log, and a line that says so is due
pub record IsBadLogOf (bytes : List ℕ) (n : ℕ) (text : List ℕ) : Type 0 where
  pub bad : IsBadLine bytes n
  pub text_is : text ≡ bad_line n

-- these bytes spell a log, line n is the first whose pairs close a cycle, and a line that says so is due
pub record IsCycleOf (bytes : List ℕ) (n : ℕ) (text : List ℕ) : Type 0 where
  pub cyclic : IsCyclicAt bytes n
  pub text_is : text ≡ cyclic_line n

-- the text that is due for these bytes
abbrev pub IsDueForLog : List ℕ → List ℕ → Type 0
IsDueForLog bytes text =
    IsTextOf bytes text ⊎ (((n : ℕ) × IsBadLogOf bytes n text) ⊎ ((n : ℕ) × IsCycleOf bytes n text))

-- what the end of the program says of a log, once the whole input was read: what the sink held before and holds
-- afterwards, and how many faults it had and has counted
abbrev pub EndsOnLog : Exit → List ℕ → Option (List ℕ) → Option (List ℕ) → ℕ → ℕ → Type 0
EndsOnLog Done bytes held held' faults faults' =
    (text : List ℕ) × IsTextOf bytes text × Appends held held' text × (faults' ≡ faults)
EndsOnLog (BadLine n) bytes held held' faults faults' =
    (text : List ℕ) × IsBadLogOf bytes n text × Appends held held' text × (faults' ≡ faults)
EndsOnLog (Cyclic n) bytes held held' faults faults' =
    (text : List ℕ) × IsCycleOf bytes n text × Appends held held' text × (faults' ≡ faults)
EndsOnLog WriteFault bytes held held' faults faults' =
    (text : List ℕ) × IsDueForLog bytes text × TookBeforeFault text held held' faults faults'
EndsOnLog NoMemory bytes held held' faults faults' =
    (faults' ≡ faults) × (Keeps held held' ⊎ ((text : List ℕ) × IsDueForLog bytes text × TookFront text held held'))
EndsOnLog other bytes held held' faults faults' = ⊥
