-- What each end of the program says: what was read, what was written, and why it came.
use Rattle.std.specs.Prelude.{◌≡◌, ℕ, ◌≤◌, ◌⊎◌, List, [], ◌∷◌, length, codes, Some}
use Rattle.std.specs.Fmt.{decimal}
use Rattle.std.specs.Io.KnownBytes.{Appends, Keeps}
use Rattle.kr_text.specs.Causes.{Rose}
use Rattle.kr_text.specs.Reads.{GaveAll, GaveSome}
use Rattle.kr_text.specs.Writes.{TookBeforeFault}
use Rattle.script_lang.specs.declared.script.Script.{Script}
use Rattle.script_lang.specs.Number.{IsFromOneTo}
use Rattle.script_lang.specs.Script.{Parses}
use Rattle.load_gen.specs.Summary.{load_text}
use Rattle.clock_import.specs.Reading.{IsBadLine as IsBadLogLine}
use Rattle.clock_import.specs.Imported.{IsCyclicAt}
use Rattle.clock_import.specs.Text.{IsTextOf}
use Rattle.kronos_runs.specs.declared.exit.Exit.{Exit}
use Rattle.kronos_runs.specs.declared.exit.Exit.TheVariants.{Done, Usage, BadLine, TooLong, ReadFault, WriteFault, NoMemory, Cyclic}
use Rattle.kronos_runs.specs.Due.{IsRunOf, IsRefusalOf, IsDueFor, TookFront}
use Rattle.kronos_runs.specs.Outside.{Outside, IsFaultless, IsNoForm, HasUsage, IsTooLong, FailedToRead, input_limit, usage_line}
use Rattle.kronos_runs.specs.Logs.{IsBadLogOf, IsCycleOf, IsDueForLog}

-- the words ask for the run of a script
abbrev pub AskForScript : List (List ℕ) → Type 0
AskForScript words = words ≡ codes "script" ∷ []

-- the words ask for the load of so many rounds
pub record AskForLoad (rounds : ℕ) (words : List (List ℕ)) : Type 0 where
  pub size : IsFromOneTo 2000 rounds
  pub words_are : words ≡ codes "load" ∷ decimal rounds ∷ []

-- the words ask for the import of a log
abbrev pub AskForImport : List (List ℕ) → Type 0
AskForImport words = words ≡ codes "import" ∷ []

-- the words ask for a run of what is read
abbrev pub AskToRead : List (List ℕ) → Type 0
AskToRead words = AskForScript words ⊎ AskForImport words

-- the words ask for a run
abbrev pub IsForm : List (List ℕ) → Type 0
IsForm words = AskForScript words ⊎ (((rounds : ℕ) × AskForLoad rounds words) ⊎ AskForImport words)

-- the words ask for the run of a script, and these bytes are the whole input
pub record HasRead (words : List (List ℕ)) (before after : Outside) (bytes : List ℕ) : Type 0 where
  pub form : AskForScript words
  pub whole : GaveAll input_limit before.left after.left bytes
  pub calm : after.reads ≡ before.reads

-- Done: the whole input was read and is a script, and the text of its run was written, which is lawful and calm.
pub record HasRun (words : List (List ℕ)) (before after : Outside) : Type 0 where
  pub bytes : List ℕ
  pub text : List ℕ
  pub read : HasRead words before after bytes
  pub run : IsRunOf bytes text
  pub written : Appends before.held after.held text
  pub calm : after.writes ≡ before.writes

-- BadLine: the whole input was read, line n is the first that is in no script, and a line that says so was written.
pub record HasBadLine (n : ℕ) (words : List (List ℕ)) (before after : Outside) : Type 0 where
  pub bytes : List ℕ
  pub text : List ℕ
  pub read : HasRead words before after bytes
  pub refused : IsRefusalOf bytes n text
  pub written : Appends before.held after.held text
  pub calm : after.writes ≡ before.writes

-- the text that was due after what was read
pub record HadToWrite (words : List (List ℕ)) (before after : Outside) (text : List ℕ) : Type 0 where
  pub bytes : List ℕ
  pub read : HasRead words before after bytes
  pub due : IsDueFor bytes text

-- WriteFault: the sink counted a fault, and took a front of the text that was due, and not all of it. That is the usage
-- line where the words are no form, and nothing was read then.
abbrev pub FailedToWrite : List (List ℕ) → Outside → Outside → Type 0
FailedToWrite words before after =
    (IsNoForm (IsForm words) before after × TookBeforeFault usage_line before.held after.held before.writes after.writes)
    ⊎ ((text : List ℕ) × HadToWrite words before after text × TookBeforeFault text before.held after.held before.writes after.writes)

-- NoMemory: the words ask for the run of a script, and no read and no write failed. Nothing was written, or the whole input was read and
-- a front of the text that was due was written, and not all of it.
pub record LacksMemory (words : List (List ℕ)) (before after : Outside) : Type 0 where
  pub form : AskForScript words
  pub given : GaveSome input_limit before.left after.left
  pub calm : IsFaultless before after
  pub written : Keeps before.held after.held
      ⊎ ((text : List ℕ) × HadToWrite words before after text × TookFront text before.held after.held)

-- the words ask for the load of so many rounds, and nothing was read
pub record IsLoad (rounds : ℕ) (words : List (List ℕ)) (before after : Outside) : Type 0 where
  pub form : AskForLoad rounds words
  pub unread : Keeps before.left after.left
  pub calm : after.reads ≡ before.reads

-- Done of a load: the summary of its run was written.
pub record HasLoaded (words : List (List ℕ)) (before after : Outside) : Type 0 where
  pub rounds : ℕ
  pub load : IsLoad rounds words before after
  pub written : Appends before.held after.held (load_text rounds)
  pub calm : after.writes ≡ before.writes

-- WriteFault of a load: the sink counted a fault, and took a front of the summary, and not all of it.
pub record FailedToWriteLoad (words : List (List ℕ)) (before after : Outside) : Type 0 where
  pub rounds : ℕ
  pub load : IsLoad rounds words before after
  pub took : TookBeforeFault (load_text rounds) before.held after.held before.writes after.writes

-- NoMemory of a load: nothing was written, and no write failed.
pub record LacksMemoryForLoad (words : List (List ℕ)) (before after : Outside) : Type 0 where
  pub rounds : ℕ
  pub load : IsLoad rounds words before after
  pub unwritten : Keeps before.held after.held
  pub calm : after.writes ≡ before.writes

-- the words ask for the import of a log, and these bytes are the whole input
pub record HasReadLog (words : List (List ℕ)) (before after : Outside) (bytes : List ℕ) : Type 0 where
  pub form : AskForImport words
  pub whole : GaveAll input_limit before.left after.left bytes
  pub calm : after.reads ≡ before.reads

-- Done of an import: the whole input was read and is a log without a cycle, and the text of its import was written.
pub record HasImported (words : List (List ℕ)) (before after : Outside) : Type 0 where
  pub bytes : List ℕ
  pub text : List ℕ
  pub read : HasReadLog words before after bytes
  pub told : IsTextOf bytes text
  pub written : Appends before.held after.held text
  pub calm : after.writes ≡ before.writes

-- BadLine of an import: the whole input was read, line n is the first that is in no log, and a line that says so was
-- written.
pub record HasBadLogLine (n : ℕ) (words : List (List ℕ)) (before after : Outside) : Type 0 where
  pub bytes : List ℕ
  pub text : List ℕ
  pub read : HasReadLog words before after bytes
  pub refused : IsBadLogOf bytes n text
  pub written : Appends before.held after.held text
  pub calm : after.writes ≡ before.writes

-- Cyclic: the whole input was read and is a log, line n is the first whose pairs close a cycle with those above it, and a
-- line that says so was written.
pub record HasCycle (n : ℕ) (words : List (List ℕ)) (before after : Outside) : Type 0 where
  pub bytes : List ℕ
  pub text : List ℕ
  pub read : HasReadLog words before after bytes
  pub closes : IsCycleOf bytes n text
  pub written : Appends before.held after.held text
  pub calm : after.writes ≡ before.writes

-- the text of an import that was due after what was read
pub record HadToWriteLog (words : List (List ℕ)) (before after : Outside) (text : List ℕ) : Type 0 where
  pub bytes : List ℕ
  pub read : HasReadLog words before after bytes
  pub due : IsDueForLog bytes text

-- WriteFault of an import: the sink counted a fault, and took a front of the text that was due, and not all of it.
pub record FailedToWriteLog (words : List (List ℕ)) (before after : Outside) : Type 0 where
  pub text : List ℕ
  pub due : HadToWriteLog words before after text
  pub took : TookBeforeFault text before.held after.held before.writes after.writes

-- NoMemory of an import: no read and no write failed. Nothing was written, or the whole input was read and a front of the
-- text that was due was written, and not all of it.
pub record LacksMemoryForLog (words : List (List ℕ)) (before after : Outside) : Type 0 where
  pub form : AskForImport words
  pub given : GaveSome input_limit before.left after.left
  pub calm : IsFaultless before after
  pub written : Keeps before.held after.held
      ⊎ ((text : List ℕ) × HadToWriteLog words before after text × TookFront text before.held after.held)

-- what the end of the program says of its words, and of what was seen outside before and afterwards
abbrev pub Ends : Exit → List (List ℕ) → Outside → Outside → Type 0
Ends Done words before after = HasRun words before after ⊎ (HasLoaded words before after ⊎ HasImported words before after)
Ends Usage words before after = HasUsage (IsForm words) before after
Ends (BadLine n) words before after = HasBadLine n words before after ⊎ HasBadLogLine n words before after
Ends TooLong words before after = IsTooLong (AskToRead words) before after
Ends ReadFault words before after = FailedToRead (AskToRead words) before after
Ends WriteFault words before after =
    FailedToWrite words before after ⊎ (FailedToWriteLoad words before after ⊎ FailedToWriteLog words before after)
Ends NoMemory words before after =
    LacksMemory words before after ⊎ (LacksMemoryForLoad words before after ⊎ LacksMemoryForLog words before after)
Ends (Cyclic n) words before after = HasCycle n words before after

-- the words ask for the run of a script, the input is one within the limit, and neither source nor sink counts a fault
pub record IsServed (words : List (List ℕ)) (before after : Outside) : Type 0 where
  pub form : AskForScript words
  pub bytes : List ℕ
  pub script : Script
  pub told : before.left ≡ Some bytes
  pub fits : length bytes ≤ input_limit
  pub parses : Parses bytes script
  pub read : Rose before.reads after.reads → ⊥
  pub written : Rose before.writes after.writes → ⊥

-- the words ask for a load, and the sink counts no fault
pub record IsLoadServed (words : List (List ℕ)) (before after : Outside) : Type 0 where
  pub rounds : ℕ
  pub form : AskForLoad rounds words
  pub written : Rose before.writes after.writes → ⊥

-- the words ask for an import, the input is within the limit, and neither source nor sink counts a fault
pub record IsImportServed (words : List (List ℕ)) (before after : Outside) : Type 0 where
  pub form : AskForImport words
  pub bytes : List ℕ
  pub told : before.left ≡ Some bytes
  pub fits : length bytes ≤ input_limit
  pub read : Rose before.reads after.reads → ⊥
  pub written : Rose before.writes after.writes → ⊥

-- how the import of these bytes ends: the text is that of a log without a cycle, a line is the first bad one, or it is the
-- first that closes a cycle
abbrev pub IsImportEnd : List ℕ → Exit → Type 0
IsImportEnd bytes Done = (text : List ℕ) × IsTextOf bytes text
IsImportEnd bytes (BadLine n) = IsBadLogLine bytes n
IsImportEnd bytes (Cyclic n) = IsCyclicAt bytes n
IsImportEnd bytes other = ⊥

-- an import that is served ends so, or finds no memory
abbrev pub EndsAsImport : Exit → List (List ℕ) → Outside → Outside → Type 0
EndsAsImport exit words before after =
    (served : IsImportServed words before after) (due : Exit) → IsImportEnd served.bytes due → (exit ≡ due) ⊎ (exit ≡ NoMemory)
