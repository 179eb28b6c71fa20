use Rattle.std.proofs.Common.{[], ◌≤◌, arith}
use Rattle.std.proofs.lemmas.List.Elements.{All-nil}
use Rattle.reach.proofs.FoundLemmas.{IsMarked-next}
use Rattle.reach.proofs.found.Found.new.Goals as goal

pub invariant_of-result : goal.invariant_of-result
invariant_of-result c = rw (c.new.ensures.items, c.new-2.ensures.items) (IsMarked-next [] 0 _ (record { each = All-nil (λ mark. mark ≤ 0); room = omega arith }))
