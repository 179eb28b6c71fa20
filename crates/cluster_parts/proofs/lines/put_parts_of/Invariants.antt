use Rattle.std.proofs.Common.{◌≡◌, ◌++◌, take}
use Rattle.kr_world.specs.Lines.{part_lines}
use Rattle.kr_world.specs.Step.{parts_to}
use Rattle.cluster_parts.proofs.lines.put_parts_of.Given as goal

abbrev pub invariant-loop-part : goal.invariant-loop-part
invariant-loop-part l =
    l.out.items ≡ l.initial.out.items ++ part_lines (parts_to l.client (take l.part-index l.parts))
