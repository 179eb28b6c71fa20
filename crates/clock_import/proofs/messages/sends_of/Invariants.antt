use Rattle.std.proofs.Common.{◌≡◌, ℕ, take}
use Rattle.std.specs.Ordering.{nat_cmp}
use Rattle.std.specs.BTreeMap as tree
use Rattle.clock_import.specs.Log.{first_send}
use Rattle.clock_import.proofs.messages.sends_of.Given as goal

abbrev pub invariant-loop-i : goal.invariant-loop-i
invariant-loop-i l = (m : ℕ) → tree.get nat_cmp l.firsts m ≡ first_send (take l.i l.lines) m
