-- The statements of the laws.
use Rattle.std.specs.Prelude.{◌≡◌, ◌↔◌, ℕ, List, ◌++◌, flat_map}
use Rattle.script_lang.specs.declared.script.Script.{Script}
use Rattle.script_lang.specs.Line.{line}
use Rattle.script_lang.specs.Event.{event_text}
use Rattle.script_lang.specs.Script.{IsScript, Parses, IsBadLine, first_line}
use Rattle.script_lang.specs.Rows.{each_kind, each_kind_spelt, of_three, of_three_spelt}

abbrev pub BadLinesAreInNoScript : Type 0
BadLinesAreInNoScript = (bytes : List ℕ) (n : ℕ) (script : Script) → IsBadLine bytes n → Parses bytes script → ⊥

abbrev pub TheBadLineIsOne : Type 0
TheBadLineIsOne = (bytes : List ℕ) (m n : ℕ) → IsBadLine bytes m → IsBadLine bytes n → m ≡ n

abbrev pub ASpellingIsOfOneScript : Type 0
ASpellingIsOfOneScript = (bytes : List ℕ) (one other : Script) → Parses bytes one → Parses bytes other → one ≡ other

-- bytes spell a script exactly where they are what is printed of it: its first line, and then its events' lines
abbrev pub ScriptsAreReadAsPrinted : Type 0
ScriptsAreReadAsPrinted =
    (bytes : List ℕ) (script : Script) →
    Parses bytes script
    ↔ (IsScript script
    × (first_line script.servers script.clients
    ++ flat_map (λ event. line (event_text event)) script.events ≡ bytes))

-- this is how a script with a line of each kind is spelt, and one of three servers
abbrev pub EachKindOfLineIsSpeltSo : Type 0
EachKindOfLineIsSpeltSo = Parses each_kind_spelt each_kind × Parses of_three_spelt of_three
