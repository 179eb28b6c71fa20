use Rattle.std.proofs.Common.{ap, ◌∙◌, arith}
use Rattle.replica_lock.proofs.SeatLemmas.{popped}
use Rattle.replica_lock.proofs.turn.Turn.join_all.Goals as goal

pub loop-seat-init : goal.loop-seat-init
loop-seat-init g c =
    let pop = popped c.args.self.now.table c.args.seats.items c.pop.new.self.items c.pop.result c.unwrap-whole.result
    c.pop.ensures.items c.unwrap-whole.ensures c.requires.idle in
    record { idle = pop.last; others = pop.others; parts = omega (arith, pop.parts); gives = omega (arith, pop.gives) }

pub join-requires-clause-other : goal.join-requires-clause-other
join-requires-clause-other g c =
    let pop = popped c.args.self.now.table c.loop-seat.seats.items c.pop-in-loop-seat.new.self.items c.pop-in-loop-seat.result
    c.in-Some.seat c.pop-in-loop-seat.ensures.items c.in-Some.is c.loop-seat.invariant.others in
    pop.last

pub loop-seat-preserved : goal.loop-seat-preserved
loop-seat-preserved g c =
    let is = c.loop-seat.invariant in
    let joined = c.join.ensures.seat in
    let pop = popped c.args.self.now.table c.loop-seat.seats.items c.pop-in-loop-seat.new.self.items c.pop-in-loop-seat.result
    c.in-Some.seat c.pop-in-loop-seat.ensures.items c.in-Some.is is.others in
    record {
      idle = record { turn = ap (λ s. s.table) joined ∙ is.idle.turn; holds = ap (λ s. s.holds) joined ∙ is.idle.holds };
      others = pop.others;
      parts = omega (arith, pop.parts, ap (λ s. s.parts) joined, is.parts);
      gives = omega (arith, pop.gives, ap (λ s. s.gives) joined, is.gives);
    }
