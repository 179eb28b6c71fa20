use Rattle.std.proofs.Common.{◌≡◌, ◌++◌, ◌+◌, drop}
use Rattle.clock_import.specs.Text.{event_lines}
use Rattle.clock_import.proofs.print.put_events.Given as goal

abbrev pub invariant-loop-i : goal.invariant-loop-i
invariant-loop-i l =
    l.out.items ++ event_lines (l.before + l.i + 1) (drop l.i l.events) ≡ l.initial.out.items ++ event_lines (l.before + 1) l.events
