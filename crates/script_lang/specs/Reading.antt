-- What the reader of scripts answers.
use Rattle.std.specs.Fmt.{decimal}
use Rattle.std.specs.Prelude.{◌≡◌, ◌≢◌, ℕ, List, ◌++◌, flat_map, codes, Option, None, Some, Result, Ok, Err}
use Rattle.script_lang.specs.declared.script.Event.{Event}
use Rattle.script_lang.specs.declared.script.Script.{Script}
use Rattle.script_lang.specs.declared.read.ScriptStop.{ScriptStop}
use Rattle.script_lang.specs.declared.read.ScriptStop.TheVariants.{BadLine, NoMemory}
use Rattle.script_lang.specs.Line.{line}
use Rattle.script_lang.specs.Number.{IsFromOneTo, BeginsNoDigit}
use Rattle.script_lang.specs.Event.{IsEvent, event_word, event_text}
use Rattle.script_lang.specs.Script.{Parses, IsBadLine, IsSize, first_line}

abbrev pub Reads : List ℕ → Result Script ScriptStop → Type 0
Reads bytes (Ok script) = Parses bytes script
Reads bytes (Err (BadLine n)) = IsBadLine bytes n
Reads bytes (Err NoMemory) = Unit {0}

-- the bytes are the first line of a script, and then the rest
pub record ReadsSize (bytes : List ℕ) (servers clients : ℕ) (rest : List ℕ) : Type 0 where
  pub size : IsSize servers clients
  pub whole : bytes ≡ first_line servers clients ++ rest

-- the bytes are an event's line, and then the rest
pub record ReadsEvent (bytes : List ℕ) (event : Event) (rest : List ℕ) : Type 0 where
  pub fit : IsEvent event
  pub whole : bytes ≡ line (event_text event) ++ rest

-- the bytes are a word behind a space, and then the rest
pub record ReadsWord {item : Type 0} (word : item → List ℕ) (Fits : item → Type 0)
    (bytes : List ℕ) (read : item) (rest : List ℕ) : Type 0 where
  pub fit : Fits read
  pub whole : bytes ≡ codes " " ++ word read ++ rest
  pub ends : BeginsNoDigit rest

-- what is read is spelt by the bytes; nothing is where they spell nothing that fits
abbrev pub Spells : {item : Type 0} → (item → List ℕ) → (item → Type 0) → List ℕ → Option item → Type 0
Spells {item} text Fits bytes None = (one : item) → Fits one → bytes ≢ text one
Spells {item} text Fits bytes (Some read) = Fits read × (bytes ≡ text read)

-- the words of a list, each with a space before it
abbrev pub words : {item : Type 0} → (item → List ℕ) → List item → List ℕ
words {item} word items = flat_map (λ one. codes " " ++ word one) items

-- a word in front is read in one way
pub record IsReadOnce {item : Type 0} (word : item → List ℕ) (Fits : item → Type 0) : Type 0 where
  pub once : (x y : item) (xs ys : List ℕ) → Fits x → Fits y → BeginsNoDigit xs → BeginsNoDigit ys
      → word x ++ xs ≡ word y ++ ys → (x ≡ y) × (xs ≡ ys)

-- an event whose line has this first word
pub record IsEventOf (word : List ℕ) (event : Event) : Type 0 where
  pub fit : IsEvent event
  pub named : event_word event ≡ word

-- a number behind a space
abbrev pub one_word : ℕ → List ℕ
one_word n = codes " " ++ decimal n

-- two numbers, each behind a space
abbrev pub two_words : ℕ × ℕ → List ℕ
two_words pair = codes " " ++ decimal pair.0 ++ codes " " ++ decimal pair.1

-- two numbers that a line may give, where these are the greatest
pub record AreFromOneTo (most most' : ℕ) (pair : ℕ × ℕ) : Type 0 where
  pub first : IsFromOneTo most pair.0
  pub second : IsFromOneTo most' pair.1
