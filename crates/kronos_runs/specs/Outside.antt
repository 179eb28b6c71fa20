-- What is seen outside the program, and the ends that come before it has its whole input, whatever it is asked for.
use Rattle.std.specs.Prelude.{◌≡◌, ℕ, List, codes, Option, Result, Ok, Err}
use Rattle.std.specs.declared.vec.Vec.{Vec}
use Rattle.std.specs.declared.alloc.Global.{Global}
use Rattle.std.specs.Io.KnownBytes.{Appends, Keeps}
use Rattle.kr_text.specs.Causes.{Rose}
use Rattle.kr_text.specs.Reads.{GaveAll, GaveSome, GaveTooMany}
use Rattle.kr_text.specs.Writes.{TookBeforeFault}
use Rattle.script_lang.specs.Line.{line}
use Rattle.kronos_runs.specs.declared.exit.Exit.{Exit}
use Rattle.kronos_runs.specs.declared.exit.Exit.TheVariants.{Usage, TooLong, ReadFault, WriteFault, NoMemory}

-- what is seen outside at a moment: the bytes that the source has left and that the sink holds, where they tell them,
-- and how many faults each has counted
pub record Outside : Type 0 where
  pub left : Option (List ℕ)
  pub reads : ℕ
  pub held : Option (List ℕ)
  pub writes : ℕ

abbrev pub input_limit : ℕ
input_limit = 1048576

abbrev pub usage_line : List ℕ
usage_line = line (codes "usage: kronos script, load N, live, audit, import, chain")

-- no read and no write failed
pub record IsFaultless (before after : Outside) : Type 0 where
  pub reads : after.reads ≡ before.reads
  pub writes : after.writes ≡ before.writes

-- what reading the whole input answers: its bytes, or how the program ends
abbrev pub ReadsInput : Result (Vec ℕ Global) Exit → Option (List ℕ) → Option (List ℕ) → ℕ → ℕ → Type 0
ReadsInput (Ok bytes) left left' faults faults' = GaveAll input_limit left left' bytes.items × (faults' ≡ faults)
ReadsInput (Err TooLong) left left' faults faults' = GaveTooMany input_limit left left' × (faults' ≡ faults)
ReadsInput (Err ReadFault) left left' faults faults' = GaveSome input_limit left left' × Rose faults faults'
ReadsInput (Err NoMemory) left left' faults faults' = GaveSome input_limit left left' × (faults' ≡ faults)
ReadsInput (Err other) left left' faults faults' = ⊥

-- what the end of the program says where the usage line was due: what the sink held before and holds afterwards, and how
-- many faults it had and has counted
abbrev pub EndsOnUsage : Exit → Option (List ℕ) → Option (List ℕ) → ℕ → ℕ → Type 0
EndsOnUsage Usage held held' faults faults' = Appends held held' usage_line × (faults' ≡ faults)
EndsOnUsage WriteFault held held' faults faults' = TookBeforeFault usage_line held held' faults faults'
EndsOnUsage other held held' faults faults' = ⊥

-- the words are no form, and nothing was read
pub record IsNoForm (form : Type 0) (before after : Outside) : Type 0 where
  pub no_form : form → ⊥
  pub unread : Keeps before.left after.left
  pub calm : after.reads ≡ before.reads

-- Usage: the words are no form, nothing was read, and the usage line was written.
pub record HasUsage (form : Type 0) (before after : Outside) : Type 0 where
  pub none : IsNoForm form before after
  pub written : Appends before.held after.held usage_line
  pub calm : after.writes ≡ before.writes

-- TooLong: the words are a form that reads, the source gave a byte past the limit, and nothing was written.
pub record IsTooLong (asked : Type 0) (before after : Outside) : Type 0 where
  pub form : asked
  pub over : GaveTooMany input_limit before.left after.left
  pub unwritten : Keeps before.held after.held
  pub calm : IsFaultless before after

-- ReadFault: the words are a form that reads, the source counted a fault, and nothing was written.
pub record FailedToRead (asked : Type 0) (before after : Outside) : Type 0 where
  pub form : asked
  pub given : GaveSome input_limit before.left after.left
  pub rose : Rose before.reads after.reads
  pub unwritten : Keeps before.held after.held
  pub calm : after.writes ≡ before.writes
