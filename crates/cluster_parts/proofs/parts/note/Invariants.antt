use Rattle.std.proofs.Common.{◌≡◌, ◌++◌, take}
use Rattle.cluster_parts.proofs.parts.note.Given as goal

abbrev pub invariant-loop-done : goal.invariant-loop-done
invariant-loop-done l = l.journal ≡ l.initial.journal ++ take l.done-index l.news
