use Rattle.std.proofs.Common.{get_or, refl, arith}
use Rattle.clock_import.specs.declared.log.Act.TheVariants.{Local}
use Rattle.clock_import.proofs.LinkLemmas.{links_next, count_small}
use Rattle.clock_import.proofs.links.links_of.Goals as goal

pub overflow_add-number : goal.overflow_add-number
overflow_add-number c =
    let small = count_small c.args.processes c.args.lines.now c.loop-i.i c.loop-i.seen.items c.loop-i.links.items c.index-of_process.result.now (get_or c.args.lines.now c.loop-i.i (record { process = 0; act = Local })) (record { process = 0; act = Local }) _ c.loop-i.invariant c.loop-i-test.true c.requires.few c.requires.each refl c.index-of_process.ensures in
    omega arith

pub loop-i-preserved : goal.loop-i-preserved
loop-i-preserved c =
    rw c.in_ok-push.ensures.items (links_next c.args.processes c.args.lines.now c.loop-i.i c.loop-i.seen.items c.loop-i.links.items c.index-of_process.result.now c.source_of.result (get_or c.args.lines.now c.loop-i.i (record { process = 0; act = Local })) (record { process = 0; act = Local }) _ c.loop-i.invariant c.loop-i-test.true c.requires.each refl c.index-of_process.ensures (c.source_of.ensures c.args.lines.now c.requires.messages))
