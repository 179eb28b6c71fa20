use Rattle.std.proofs.Common.{ℕ, List, Option, Result, Ok, Err, IfOk}
use Rattle.kr_order.specs.declared.ids.NoMemory.{NoMemory}
use Rattle.script_lang.specs.declared.script.Event.{Event}
use Rattle.script_lang.specs.Line.{IsWordCut}
use Rattle.script_lang.specs.Event.{IsEvent, event_words, event_text}
use Rattle.script_lang.specs.Reading.{Spells, IsEventOf}
use Rattle.script_lang.proofs.KindLemmas.{line_spells}
use Rattle.script_lang.proofs.events.event_of.Goals as goal

by_result : (text word words : List ℕ) (result : Result (Option Event) NoMemory) → IsWordCut text word words → IfOk result (λ read. Spells event_words (IsEventOf word) words read) → IfOk result (λ read. Spells event_text IsEvent text read)
by_result text word words (Ok read) cut spells = line_spells text word words read cut spells
by_result text word words (Err _) cut _ = tt

pub returns : goal.returns
returns c = by_result c.args.text.now c.split_word.result.0.now c.split_word.result.1.now c.event_by.result c.split_word.ensures c.event_by.ensures
