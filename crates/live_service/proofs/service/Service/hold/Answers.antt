use Rattle.std.proofs.Common.{ap, length, arith}
use Rattle.kr_order.proofs.PrefixLemmas.{IsPrefix-trans}
use Rattle.live_service.proofs.PassLemmas.{gave_back, learnt_on}
use Rattle.live_service.proofs.service.Service.hold.Goals as goal

pub returns-then-is_all-clause-own : goal.returns-then-is_all-clause-own
returns-then-is_all-clause-own g c =
    IsPrefix-trans c.args.reader.now.list c.loop.reader.list c.is_all.new.reader.list c.loop.invariant.own c.is_all.ensures.own

pub loop-preserved : goal.loop-preserved
loop-preserved g c = record {
  seat = gave_back c.args.seat.now c.loop.seat c.take-behind.new.seat c.give.new.seat (length c.take-behind.result.list)
      c.requires.idle.holds c.loop.invariant.seat c.take-behind.ensures.seat c.give.ensures.seat c.give.ensures.gives;
  empties = omega (arith, c.loop.invariant.empties, c.take-behind.ensures.empties, ap (λ s. s.empties) c.give.ensures.seat);
  reader = learnt_on c.args.reader.now c.loop.reader c.is_all.new.reader c.loop.invariant.reader c.is_all.ensures.rest;
  own = IsPrefix-trans c.args.reader.now.list c.loop.reader.list c.is_all.new.reader.list c.loop.invariant.own c.is_all.ensures.own;
}
