use Rattle.wire_fit.proofs.SpokenLemmas.{worlds_spoken}
use Rattle.wire_fit.proofs.laws.worlds_are_spoken.Goals as goal

pub returns : goal.returns
returns c = worlds_spoken
