use Rattle.std.proofs.Common.{◌≡◌, ◌++◌, take}
use Rattle.kr_world.specs.Lines.{done_lines}
use Rattle.cluster_parts.proofs.lines.put_journal.Given as goal

abbrev pub invariant-loop-done : goal.invariant-loop-done
invariant-loop-done l = l.out.items ≡ l.initial.out.items ++ done_lines (take l.done-index l.journal)
