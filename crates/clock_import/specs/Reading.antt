-- Which line of bytes is the first that is in no log. A line counts for the others wherever it stands, also behind a
-- bad one: so all lines are read first, up to as many as a log may have.
use Rattle.std.specs.Prelude.{◌≡◌, ◌≢◌, ◌⊎◌, ℕ, ◌+◌, ◌<◌, ◌≤◌, false, true, List, [], ◌++◌, length, flat_map, map, All}
use Rattle.script_lang.specs.Line.{line, HasNoEnd}
use Rattle.script_lang.specs.Number.{IsFromOneTo}
use Rattle.clock_import.specs.declared.log.Act.{Act}
use Rattle.clock_import.specs.declared.log.Act.TheVariants.{Local, Send, Receive, Bad}
use Rattle.clock_import.specs.declared.log.LogLine.{LogLine}
use Rattle.clock_import.specs.Log.{IsLine, line_text, first_line, is_good}

-- the text is read as a line with this act: as the line that it spells, or as a bad one, of no process, where it
-- spells none
abbrev pub Gives : ℕ → List ℕ → LogLine → Act → Type 0
Gives processes text entry Bad = (entry.process ≡ 0) × ((other : LogLine) → IsLine processes other → text ≢ line_text other)
Gives processes text entry Local = IsLine processes entry × (text ≡ line_text entry)
Gives processes text entry (Send message) = IsLine processes entry × (text ≡ line_text entry)
Gives processes text entry (Receive message) = IsLine processes entry × (text ≡ line_text entry)

abbrev pub IsReadAs : ℕ → List ℕ → LogLine → Type 0
IsReadAs processes text entry = Gives processes text entry entry.act

-- a text without an end, and what it is read as
pub record ReadLine : Type 0 where
  pub text : List ℕ
  pub entry : LogLine

pub record IsReadLine (processes : ℕ) (read : ReadLine) : Type 0 where
  pub no_end : HasNoEnd read.text
  pub gives : IsReadAs processes read.text read.entry

-- the bytes are a first line, then lines of which each is read, and then the rest, which has no whole line or comes
-- behind as many as a log may have
pub record IsReadTo (bytes : List ℕ) (processes : ℕ) (lines : List LogLine) (rest : List ℕ) : Type 0 where
  pub processes_fit : IsFromOneTo 64 processes
  pub reads : List ReadLine
  pub each : All (IsReadLine processes) reads
  pub lines_are : lines ≡ map (λ read. read.entry) reads
  pub whole : bytes ≡ first_line processes ++ flat_map (λ read. line read.text) reads ++ rest
  pub few : length lines ≤ 20000
  pub ends : HasNoEnd rest ⊎ (length lines ≡ 20000)

-- all lines before the n-th of the file may stand there, and the n-th may not; behind the last of these lines
-- it is what is left
pub record StopsAt (bytes : List ℕ) (n : ℕ) : Type 0 where
  pub processes : ℕ
  pub lines : List LogLine
  pub rest : List ℕ
  pub read : IsReadTo bytes processes lines rest
  pub index : ℕ
  pub number : n ≡ index + 2
  pub within : index ≤ length lines
  pub good : (i : ℕ) → i < index → is_good lines i ≡ true
  pub bad : is_good lines index ≡ false
  pub more : index ≡ length lines → rest ≢ []

-- the bytes begin with the first line of a log
abbrev pub BeginsWithFirst : List ℕ → Type 0
BeginsWithFirst bytes = (processes : ℕ) × (rest : List ℕ) × IsFromOneTo 64 processes × (bytes ≡ first_line processes ++ rest)

-- line n of the bytes, counted from 1, is the first that is in no log
abbrev pub IsBadLine : List ℕ → ℕ → Type 0
IsBadLine bytes n = ((n ≡ 1) × (BeginsWithFirst bytes → ⊥)) ⊎ StopsAt bytes n
