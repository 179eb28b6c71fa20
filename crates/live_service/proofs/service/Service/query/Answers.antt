use Rattle.live_service.proofs.PassLemmas.{reads_on, copies_stay}
use Rattle.live_service.proofs.service.Service.query.Goals as goal

pub invariant_of-pass : goal.invariant_of-pass
invariant_of-pass c =
    reads_on c.pass.inside.client c.pass.inside.seat c.pass.inside.reader c.query.new.self c.pass.inside.mark c.pass.invariant
    (copies_stay c.pass.inside.reader c.query.new.self _ c.query.ensures.rest c.query.ensures.shut) c.query.ensures.list
