use Rattle.std.proofs.Common.{get_or, ap, sym, ◌∙◌}
use Rattle.clock_import.specs.declared.log.Act.TheVariants.{Local}
use Rattle.clock_import.specs.declared.log.LogLine.{LogLine}
use Rattle.clock_import.specs.Log.{sends}
use Rattle.clock_import.specs.Messages.{noted}
use Rattle.clock_import.proofs.FirstLemmas.{first_more}
use Rattle.clock_import.proofs.messages.sends_of.Goals as goal

pub loop-i-preserved : goal.loop-i-preserved
loop-i-preserved c = λ m.
    c.in_ok-note_send.ensures m ∙ ap (λ found. noted found (sends m (get_or c.args.lines.now c.loop-i.i (record { process = 0; act = Local })).act) c.loop-i.i) (c.loop-i.invariant m) ∙ sym (first_more (λ (entry : LogLine). sends m entry.act) c.args.lines.now c.loop-i.i (record { process = 0; act = Local }) c.loop-i-test.true)
