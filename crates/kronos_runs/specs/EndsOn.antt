-- What the end of a run says of the sink that its text was written to.
use Rattle.std.specs.Prelude.{◌≡◌, ◌⊎◌, ℕ, List, Option}
use Rattle.std.specs.Io.KnownBytes.{Appends, Keeps}
use Rattle.kr_text.specs.Writes.{TookBeforeFault}
use Rattle.load_gen.specs.Summary.{load_text}
use Rattle.kronos_runs.specs.declared.exit.Exit.{Exit}
use Rattle.kronos_runs.specs.declared.exit.Exit.TheVariants.{Done, BadLine, WriteFault, NoMemory}
use Rattle.kronos_runs.specs.Due.{IsRunOf, IsRefusalOf, IsDueFor, TookFront}

-- what the end of the program says of a script, once the whole input was read: what the sink held before and holds afterwards, and
-- how many faults it had and has counted
abbrev pub EndsOnBytes : Exit → List ℕ → Option (List ℕ) → Option (List ℕ) → ℕ → ℕ → Type 0
EndsOnBytes Done bytes held held' faults faults' =
    (text : List ℕ) × IsRunOf bytes text × Appends held held' text × (faults' ≡ faults)
EndsOnBytes (BadLine n) bytes held held' faults faults' =
    (text : List ℕ) × IsRefusalOf bytes n text × Appends held held' text × (faults' ≡ faults)
EndsOnBytes WriteFault bytes held held' faults faults' =
    (text : List ℕ) × IsDueFor bytes text × TookBeforeFault text held held' faults faults'
EndsOnBytes NoMemory bytes held held' faults faults' =
    (faults' ≡ faults) × (Keeps held held' ⊎ ((text : List ℕ) × IsDueFor bytes text × TookFront text held held'))
EndsOnBytes other bytes held held' faults faults' = ⊥

-- what the end of the program says of a load of so many rounds: what the sink held before and holds afterwards, and how
-- many faults it had and has counted
abbrev pub EndsOnLoad : Exit → ℕ → Option (List ℕ) → Option (List ℕ) → ℕ → ℕ → Type 0
EndsOnLoad Done rounds held held' faults faults' = Appends held held' (load_text rounds) × (faults' ≡ faults)
EndsOnLoad WriteFault rounds held held' faults faults' = TookBeforeFault (load_text rounds) held held' faults faults'
EndsOnLoad NoMemory rounds held held' faults faults' = Keeps held held' × (faults' ≡ faults)
EndsOnLoad other rounds held held' faults faults' = ⊥
