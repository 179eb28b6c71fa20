use Rattle.std.proofs.Common.{◌≡◌, map, false}
use Rattle.kr_order.specs.Numbers.{numbers_to}
use Rattle.kr_protocol.specs.Server.{founder}
use Rattle.cluster_parts.proofs.start.founders.Given as goal

abbrev pub invariant-loop-i : goal.invariant-loop-i
invariant-loop-i l =
    l.nodes.items ≡ map (λ n. record { server = founder l.fn.view (record { 0 = n }); failed = false }) (numbers_to l.i)
