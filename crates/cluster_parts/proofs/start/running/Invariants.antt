use Rattle.std.proofs.Common.{◌≡◌, map, false}
use Rattle.kr_order.specs.Numbers.{numbers_to}
use Rattle.cluster_parts.proofs.start.running.Given as goal

abbrev pub invariant-loop-i : goal.invariant-loop-i
invariant-loop-i l = l.marks.items ≡ map (λ n. false) (numbers_to l.i)
