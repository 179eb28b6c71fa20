use Rattle.std.proofs.Common.{subst, sym}
use Rattle.std.specs.Vec.{vec_capacity}
use Rattle.reach.specs.declared.found.Found.TheInside.{Inside}
use Rattle.reach.proofs.FoundLemmas.{AreEarlier, AreEarlier-none, IsMarked-next}
use Rattle.reach.proofs.found.Found.clear.Goals as goal
use Rattle.reach.proofs.found.Found.clear.Goals.{then-self, else-self}

pub invariant_of-self : goal.invariant_of-self
invariant_of-self c =
    let was = c.self.invariant in
    let earlier : AreEarlier c.if-self.self-inside.marks.items c.if-self.self-inside.number (vec_capacity c.if-self.self-inside.cells) =
    elim c.if-self.branch [
      | then-self w ↦ subst (λ (f : Inside). AreEarlier f.marks.items f.number (vec_capacity f.cells)) (sym w.self-inside-is) (AreEarlier-none w.fill.new.self.items c.self.inside.marks.items _ _ _ _ c.self.inside.marks.ok.0 (w.fill.ensures.items (λ y same. same)) was)
      | else-self w ↦ subst (λ (f : Inside). AreEarlier f.marks.items f.number (vec_capacity f.cells)) (sym w.self-inside-is) (record { each = was.earlier; room = was.room })
    ] in
    rw (c.clear.ensures.items, c.clear.ensures.capacity) (IsMarked-next _ _ _ earlier)
