-- What text is due for the bytes that were read.
use Rattle.std.specs.Prelude.{◌≡◌, ◌⊎◌, ℕ, ◌<◌, List, ◌++◌, length, take, codes, Option}
use Rattle.std.specs.Fmt.{decimal}
use Rattle.std.specs.Io.KnownBytes.{Appends}
use Rattle.script_lang.specs.declared.script.Script.{Script}
use Rattle.script_lang.specs.Line.{line}
use Rattle.script_lang.specs.Script.{Parses, IsBadLine}
use Rattle.kr_world.specs.Run.{run_of, text_of}
use Rattle.kr_world.specs.Lawful.{IsLawful}
use Rattle.kr_calm.specs.Calm.{IsCalmRun}

abbrev pub bad_line : ℕ → List ℕ
bad_line n = line (codes "bad line " ++ decimal n)

-- these bytes are a script, and the text of its run is due; the run is lawful, and from each calm world on so many rounds
-- answer every call
pub record IsRunOf (bytes text : List ℕ) : Type 0 where
  pub script : Script
  pub parses : Parses bytes script
  pub text_is : text ≡ text_of script
  pub lawful : IsLawful (run_of script)
  pub answered : IsCalmRun script

-- line n of these bytes is the first that is in no script, and a line that says so is due
pub record IsRefusalOf (bytes : List ℕ) (n : ℕ) (text : List ℕ) : Type 0 where
  pub bad : IsBadLine bytes n
  pub text_is : text ≡ bad_line n

-- the text that is due for these bytes
abbrev pub IsDueFor : List ℕ → List ℕ → Type 0
IsDueFor bytes text = IsRunOf bytes text ⊎ ((n : ℕ) × IsRefusalOf bytes n text)

-- the sink took a front of the text, and not all of it
pub record TookFront (text : List ℕ) (held held' : Option (List ℕ)) : Type 0 where
  pub count : ℕ
  pub short : count < length text
  pub taken : Appends held held' (take count text)
