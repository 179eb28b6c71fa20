use Rattle.cluster_parts.proofs.LinesLemmas.{written_more, part_lines-more}
use Rattle.cluster_parts.proofs.lines.put_parts_of.Goals as goal

pub loop-part-preserved : goal.loop-part-preserved
loop-part-preserved c =
    written_more _ _ _ _ _ _ c.loop-part.invariant c.in_ok-put_part.ensures (part_lines-more c.args.client c.loop-part.part-index c.args.parts.now _ c.loop-part-test.true)
