use Rattle.std.proofs.Common.{◌≡◌, ◌++◌, take}
use Rattle.script_lang.specs.Reading.{words}
use Rattle.script_lang.proofs.words.add_words.Given as goal

abbrev pub invariant-loop-item : goal.invariant-loop-item
invariant-loop-item g l =
    l.out.items ≡ l.initial.out.items ++ words g.W.Worded.word (take l.item-index l.items)
