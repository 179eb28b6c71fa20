-- What writing a whole text gives, and what the sink took.
use Rattle.std.specs.Prelude.{ℕ, ◌<◌, List, length, take, Option, Result, Ok, Err}
use Rattle.std.specs.Io.KnownBytes.{Appends}
use Rattle.kr_text.specs.Causes.{Rose}
use Rattle.kr_text.specs.declared.write.WriteStop.{WriteStop}
use Rattle.kr_text.specs.declared.write.WriteStop.TheVariants.{Fault}

-- the sink took a front of the text, and not all of it, before a fault
pub record TookBeforeFault (text : List ℕ) (held held' : Option (List ℕ)) (faults faults' : ℕ) : Type 0 where
  pub count : ℕ
  pub short : count < length text
  pub taken : Appends held held' (take count text)
  pub rose : Rose faults faults'

-- what writing the text answers
abbrev pub Writes : {U : Type 0} → List ℕ → Result U WriteStop → Option (List ℕ) → Option (List ℕ) → ℕ → ℕ → Type 0
Writes text (Ok done) held held' faults faults' = Appends held held' text
Writes text (Err Fault) held held' faults faults' = TookBeforeFault text held held' faults faults'
