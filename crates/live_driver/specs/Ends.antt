-- What each end of the program says: what was read, what was written, and why it came.
use Rattle.std.specs.Prelude.{◌≡◌, ℕ, ◌≤◌, ◌⊎◌, List, length, Some}
use Rattle.std.specs.Io.KnownBytes.{Appends, Keeps}
use Rattle.kr_text.specs.Causes.{Rose}
use Rattle.kr_text.specs.Reads.{GaveAll, GaveSome}
use Rattle.kr_text.specs.Writes.{TookBeforeFault}
use Rattle.kronos_runs.specs.declared.exit.Exit.{Exit}
use Rattle.kronos_runs.specs.declared.exit.Exit.TheVariants.{Done, Usage, BadLine, TooLong, ReadFault, WriteFault, NoMemory, Cyclic}
use Rattle.kronos_runs.specs.Due.{TookFront}
use Rattle.kronos_runs.specs.Outside.{Outside, IsFaultless, IsNoForm, HasUsage, IsTooLong, FailedToRead, input_limit, usage_line}
use Rattle.live_driver.specs.declared.form.Form.{Form}
use Rattle.live_driver.specs.Forms.{AskFor, IsForm}
use Rattle.live_driver.specs.Due.{IsRunOf, IsRefusalOf, IsDueFor, IsEndOn}

-- the words ask for this form, and these bytes are the whole input
pub record HasRead (form : Form) (words : List (List ℕ)) (before after : Outside) (bytes : List ℕ) : Type 0 where
  pub asked : AskFor form words
  pub whole : GaveAll input_limit before.left after.left bytes
  pub calm : after.reads ≡ before.reads

-- Done: the whole input was read and is in the grammar, and the text of its run was written, which is lawful.
pub record HasRun (words : List (List ℕ)) (before after : Outside) : Type 0 where
  pub form : Form
  pub bytes : List ℕ
  pub text : List ℕ
  pub read : HasRead form words before after bytes
  pub run : IsRunOf form bytes text
  pub written : Appends before.held after.held text
  pub calm : after.writes ≡ before.writes

-- BadLine: the whole input was read, line n is the first that is not in the grammar, and a line that says so was written.
pub record HasBadLine (n : ℕ) (words : List (List ℕ)) (before after : Outside) : Type 0 where
  pub form : Form
  pub bytes : List ℕ
  pub text : List ℕ
  pub read : HasRead form words before after bytes
  pub refused : IsRefusalOf form bytes n text
  pub written : Appends before.held after.held text
  pub calm : after.writes ≡ before.writes

-- the text that was due after what was read
pub record HadToWrite (words : List (List ℕ)) (before after : Outside) (text : List ℕ) : Type 0 where
  pub form : Form
  pub bytes : List ℕ
  pub read : HasRead form words before after bytes
  pub due : IsDueFor form bytes text

-- WriteFault: the sink counted a fault, and took a front of the text that was due, and not all of it. That is the usage
-- line where the words are no form, and nothing was read then.
abbrev pub FailedToWrite : List (List ℕ) → Outside → Outside → Type 0
FailedToWrite words before after =
    (IsNoForm (IsForm words) before after × TookBeforeFault usage_line before.held after.held before.writes after.writes)
    ⊎ ((text : List ℕ) × HadToWrite words before after text × TookBeforeFault text before.held after.held before.writes after.writes)

-- NoMemory: the words are a form, and no read and no write failed. Nothing was written, or the whole input was read and a
-- front of the text that was due was written, and not all of it.
pub record LacksMemory (words : List (List ℕ)) (before after : Outside) : Type 0 where
  pub asked : IsForm words
  pub given : GaveSome input_limit before.left after.left
  pub calm : IsFaultless before after
  pub written : Keeps before.held after.held
      ⊎ ((text : List ℕ) × HadToWrite words before after text × TookFront text before.held after.held)

-- what the end of the program says of its words, and of what was seen outside before and afterwards
abbrev pub Ends : Exit → List (List ℕ) → Outside → Outside → Type 0
Ends Done words before after = HasRun words before after
Ends Usage words before after = HasUsage (IsForm words) before after
Ends (BadLine n) words before after = HasBadLine n words before after
Ends TooLong words before after = IsTooLong (IsForm words) before after
Ends ReadFault words before after = FailedToRead (IsForm words) before after
Ends WriteFault words before after = FailedToWrite words before after
Ends NoMemory words before after = LacksMemory words before after
Ends (Cyclic n) words before after = ⊥

-- the words are a form, the input is within the limit, and neither source nor sink counts a fault
pub record IsServed (words : List (List ℕ)) (before after : Outside) : Type 0 where
  pub form : Form
  pub asked : AskFor form words
  pub bytes : List ℕ
  pub told : before.left ≡ Some bytes
  pub fits : length bytes ≤ input_limit
  pub read : Rose before.reads after.reads → ⊥
  pub written : Rose before.writes after.writes → ⊥

-- a call that is served ends as its input says, or finds no memory
abbrev pub EndsAsInput : Exit → List (List ℕ) → Outside → Outside → Type 0
EndsAsInput exit words before after =
    (served : IsServed words before after) (due : Exit) → IsEndOn served.form served.bytes due → (exit ≡ due) ⊎ (exit ≡ NoMemory)
