use Rattle.std.proofs.Common.{sym}
use Rattle.batch_assign.proofs.KnownLemmas.{IsBatchHeld-known}
use Rattle.batch_assign.proofs.decide.plan.Goals as goal

pub checked-requires-clause-held : goal.checked-requires-clause-held
checked-requires-clause-held g c =
    IsBatchHeld-known c.args.refs.now.counts c.args.graph.now.vertices c.as_slice-batch.result.now c.requires.live (sym c.in-None.ensures)
