use Rattle.std.proofs.Common.{◌≡◌, map}
use Rattle.kr_order.specs.Numbers.{numbers_to}
use Rattle.chain_manager.proofs.manager.first_view.Given as goal

abbrev pub invariant-loop-i : goal.invariant-loop-i
invariant-loop-i l = l.chain ≡ map (λ n. record { 0 = n }) (numbers_to l.i)
