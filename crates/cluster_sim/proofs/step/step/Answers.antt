use Rattle.std.proofs.Common.{sym}
use Rattle.cluster_sim.proofs.PartsLemmas.{act_fits}
use Rattle.cluster_sim.proofs.step.step.Goals as goal

pub act-requires-clause-fit : goal.act-requires-clause-fit
act-requires-clause-fit g c = λ lifetimes bounds.
    act_fits c.args.parts.now c.args.event.now c.requires.rest c.requires.few c.requires.event (sym c.in-None.ensures)
