use Rattle.std.proofs.Common.{◌++◌, ap, take, append_assoc, ◌∙◌}
use Rattle.std.specs.Prelude.{codes}
use Rattle.script_lang.specs.Reading.{words}
use Rattle.script_lang.proofs.PrintLemmas.{keeps_front, on_err}
use Rattle.script_lang.proofs.words.add_words.Goals as goal

pub returns-in_err-add_text-clause-err : goal.returns-in_err-add_text-clause-err
returns-in_err-add_text-clause-err g c =
    on_err c.from_residual.result (keeps_front c.args.out.now.items (words g.W.Worded.word (take c.loop-item.item-index c.args.items.now)) c.loop-item.out.items c.add_text.new.out.items c.loop-item.invariant c.in_err-add_text.ensures.err)

pub returns-in_err-add-clause-err : goal.returns-in_err-add-clause-err
returns-in_err-add-clause-err g c =
    let before = words g.W.Worded.word (take c.loop-item.item-index c.args.items.now) in
    on_err c.from_residual-in_err-add.result (keeps_front c.args.out.now.items (before ++ codes " ") c.add_text.new.out.items c.add.new.out.items (c.in_ok-add_text.ensures.ok ∙ ap (λ o. o ++ codes " ") c.loop-item.invariant ∙ append_assoc c.args.out.now.items before (codes " ")) c.in_err-add.ensures.err)
