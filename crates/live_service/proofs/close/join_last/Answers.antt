use Rattle.live_service.proofs.CloseLemmas.{joins_last}
use Rattle.live_service.proofs.close.join_last.Goals as goal

pub returns-clause-some : goal.returns-clause-some
returns-clause-some c =
    joins_last c.args.turn.now c.args.seat.now c.join.new.seat c.into_parts-other.result.0 c.args.passes.now.items c.pop.new.self.items
    c.pop.result c.in_ok-pass.pass c.into_parts-other.result.1 c.requires.idle c.requires.each c.pop.ensures.items c.in_ok-pass.was
    c.into_parts-other.ensures.seat c.into_parts-other.ensures.reader c.into_parts-other.ensures.copies
    c.into_parts-other.ensures.commands c.join.ensures.seat
