use Rattle.std.proofs.Common.{◌≡◌}
use Rattle.live_chain.proofs.reader.Teller.wait_for.Given as goal

abbrev pub invariant-loop : goal.invariant-loop
invariant-loop g l = l.self ≡ record l.initial.self { counts = l.self.counts; count = l.self.count }
