use Rattle.std.proofs.Common.{◌≡◌, take}
use Rattle.std.specs.Prelude.{min}
use Rattle.kr_order.specs.Size.{entries_size}
use Rattle.kr_order.proofs.size.entries_size.Given as goal

abbrev pub invariant-loop-entry : goal.invariant-loop-entry
invariant-loop-entry l = l.size ≡ min (entries_size (take l.entry-index l.entries)) 18446744073709551615
