use Rattle.std.proofs.Common.{◌≤◌, length, subst}
use Rattle.reach.specs.Finds.{Finds}
use Rattle.reach.proofs.FoundLemmas.{are_few}
use Rattle.reach.proofs.found.Found.len.Goals as goal

pub returns-clause-few : goal.returns-clause-few
returns-clause-few c = subst (λ (f : Finds). length f.cells ≤ f.room) c.self.view_is (are_few _ _ _ _ c.self.invariant)
