-- What is printed of an import.
use Rattle.std.specs.Prelude.{◌≡◌, ℕ, ◌+◌, List, [], ◌∷◌, ◌++◌, length, flat_map, codes}
use Rattle.std.specs.Fmt.{decimal}
use Rattle.kr_order.specs.declared.ids.EventId.{EventId}
use Rattle.script_lang.specs.Line.{line}
use Rattle.clock_import.specs.declared.imported.Clocked.{Clocked}
use Rattle.clock_import.specs.declared.imported.Imported.{Imported}
use Rattle.clock_import.specs.Imported.{IsImportOf}

-- the numbers of a clock, with a comma between two
abbrev pub clock_text : List ℕ → List ℕ
clock_text [] = []
clock_text (part ∷ parts) = decimal part ++ flat_map (λ more. codes "," ++ decimal more) parts

-- the line of the event with this number
abbrev pub event_line : ℕ → Clocked → List ℕ
event_line event clocked =
    line (codes "event " ++ decimal event ++ codes " p" ++ decimal clocked.process ++ codes " clock " ++ clock_text clocked.clock)

-- the lines of events, of which the first has this number
abbrev pub event_lines : ℕ → List Clocked → List ℕ
event_lines event [] = []
event_lines event (clocked ∷ more) = event_line event clocked ++ event_lines (event + 1) more

-- the line of a pair
abbrev pub pair_line : EventId × EventId → List ℕ
pair_line pair = line (decimal pair.0.0 ++ codes "!" ++ decimal pair.1.0)

-- what is printed of the pairs
abbrev pub order_text : List (EventId × EventId) → List ℕ
order_text pairs = line (codes "pairs " ++ decimal (length pairs)) ++ flat_map pair_line pairs ++ line (codes "end")

-- the whole text
abbrev pub import_text : Imported → List ℕ
import_text imported = event_lines 1 imported.events ++ order_text imported.pairs

-- the bytes spell a log without a cycle, and this is the text of its import
pub record IsTextOf (bytes text : List ℕ) : Type 0 where
  pub imported : Imported
  pub is : IsImportOf bytes imported
  pub text_is : text ≡ import_text imported

-- what is printed where line n, counted from 1, is the first whose pairs close a cycle
abbrev pub cyclic_line : ℕ → List ℕ
cyclic_line n = line (codes "cyclic line " ++ decimal n)
