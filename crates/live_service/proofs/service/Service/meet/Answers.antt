use Rattle.std.proofs.Common.{ap}
use Rattle.live_service.proofs.PassLemmas.{reads_on}
use Rattle.live_service.proofs.service.Service.meet.Goals as goal

pub invariant_of-pass : goal.invariant_of-pass
invariant_of-pass c =
    reads_on c.pass.inside.client c.pass.inside.seat c.pass.inside.reader c.learn.new.self c.pass.inside.mark c.pass.invariant
    (ap (λ r. r.copies) c.learn.ensures.rest) c.learn.ensures.own
