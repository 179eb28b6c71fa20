use Rattle.std.proofs.Common.{◌≡◌, map, false}
use Rattle.kr_order.specs.Numbers.{numbers_to}
use Rattle.kr_protocol.specs.Client.{new_client}
use Rattle.cluster_parts.proofs.start.callers.Given as goal

abbrev pub invariant-loop-i : goal.invariant-loop-i
invariant-loop-i l =
    l.nodes.items ≡ map (λ n. record { client = new_client l.fn.view (record { 0 = n }); failed = false }) (numbers_to l.i)
