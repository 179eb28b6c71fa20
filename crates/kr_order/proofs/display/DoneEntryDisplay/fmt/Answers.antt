use Rattle.std.proofs.Common.{append_assoc}
use Rattle.kr_order.proofs.display.DoneEntryDisplay.fmt.Goals as goal

pub returns-clause-writes : goal.returns-clause-writes
returns-clause-writes g c = λ plain ok.
    let written = simp append_assoc at (c.write.ensures.writes plain ok) in
    simp append_assoc written
