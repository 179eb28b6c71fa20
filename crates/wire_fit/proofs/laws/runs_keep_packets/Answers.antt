use Rattle.wire_fit.proofs.RunLemmas.{runs_keep}
use Rattle.wire_fit.proofs.laws.runs_keep_packets.Goals as goal

pub returns : goal.returns
returns c = runs_keep
