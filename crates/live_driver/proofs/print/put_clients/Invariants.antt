use Rattle.std.proofs.Common.{◌≡◌, ◌++◌, ◌+◌, drop}
use Rattle.live_driver.specs.Text.{clients_lines}
use Rattle.live_driver.proofs.print.put_clients.Given as goal

abbrev pub invariant-loop-i : goal.invariant-loop-i
invariant-loop-i l =
    l.out.items ++ clients_lines (l.i + 1) (drop l.i l.clients) ≡ l.initial.out.items ++ clients_lines 1 l.clients
