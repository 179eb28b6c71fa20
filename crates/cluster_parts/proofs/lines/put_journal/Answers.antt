use Rattle.cluster_parts.proofs.LinesLemmas.{written_more, done_lines-at}
use Rattle.cluster_parts.proofs.lines.put_journal.Goals as goal

pub loop-done-preserved : goal.loop-done-preserved
loop-done-preserved c =
    written_more _ _ _ _ _ _ c.loop-done.invariant c.in_ok-put_done.ensures.ok (done_lines-at c.loop-done.done-index c.args.journal.now c.done-item.result c.loop-done-test.true c.done-item.is)
