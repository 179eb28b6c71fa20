use Rattle.std.proofs.Common.{◌≡◌, ◌∙◌, get_or, length, refl, arith}
use Rattle.clock_import.specs.declared.log.Act.TheVariants.{Local}
use Rattle.clock_import.proofs.ClockedLemmas.{clocked_next, clocked_ends}
use Rattle.clock_import.proofs.clocks.clocks_of.Goals as goal

pub loop-e-preserved : goal.loop-e-preserved
loop-e-preserved c =
    clocked_next c.args.processes c.args.lines.now c.args.links.now c.args.order.now c.loop-e.e-index c.loop-e.events.items c.as_slice.result.now c.index_mut.result.now _ (get_or c.args.lines.now (get_or c.args.order.now c.loop-e.e-index 0) (record { process = 0; act = Local })) (record { process = 0; act = Local }) c.in_ok-clock.clock c.requires.log c.requires.links c.requires.order c.loop-e.invariant c.loop-e-test.true c.index_mut.ensures.value refl c.as_slice.ensures.value c.in_ok-clock.ensures

pub returns : goal.returns
returns c =
    let all : c.loop-e.e-index ≡ length c.args.order.now = omega arith in
    c.from_vec.ensures ∙ clocked_ends c.args.processes c.args.lines.now c.args.links.now c.args.order.now c.loop-e.e-index c.loop-e.events.items c.requires.order c.loop-e.invariant all
