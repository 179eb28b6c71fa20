-- How the end of a script's run follows from what was written.
use Rattle.std.proofs.Common.{◌≡◌, ℕ, inl, inr, List}
use Rattle.std.specs.Prelude.{Option, Result, Ok, Err}
use Rattle.kronos_runs.specs.declared.exit.Exit.TheVariants.{Done, BadLine}
use Rattle.kronos_runs.specs.declared.run.RunError.{RunError}
use Rattle.kronos_runs.specs.declared.run.RunError.TheVariants.{Write, Memory}
use Rattle.kronos_runs.specs.Due.{IsRunOf, IsRefusalOf}
use Rattle.kronos_runs.specs.EndsOn.{EndsOnBytes}
use Rattle.kronos_runs.specs.Runs.{IsWritten, exit_after}

-- what a written text says of the end: the run of a script
pub run_ends : {U : Type 0} (result : Result U RunError) (bytes text : List ℕ) (held held' : Option (List ℕ)) (faults faults' : ℕ)
    → IsRunOf bytes text → IsWritten text result held held' faults faults'
    → EndsOnBytes (exit_after result Done) bytes held held' faults faults'
run_ends {U} (Ok done) bytes text held held' faults faults' run wrote = (text, run, wrote.0, wrote.1)
run_ends {U} (Err Write) bytes text held held' faults faults' run took = (text, inl run, took)
run_ends {U} (Err Memory) bytes text held held' faults faults' run took = (took.1, inr (text, inl run, took.0))

-- the refusal of a bad line
pub refusal_ends : {U : Type 0} (result : Result U RunError) (n : ℕ) (bytes text : List ℕ) (held held' : Option (List ℕ)) (faults faults' : ℕ) → IsRefusalOf bytes n text → IsWritten text result held held' faults faults' → EndsOnBytes (exit_after result (BadLine n)) bytes held held' faults faults'
refusal_ends {U} (Ok done) n bytes text held held' faults faults' refused wrote = (text, refused, wrote.0, wrote.1)
refusal_ends {U} (Err Write) n bytes text held held' faults faults' refused took = (text, inr (n, refused), took)
refusal_ends {U} (Err Memory) n bytes text held held' faults faults' refused took =
    (took.1, inr (text, inr (n, refused), took.0))
