use Rattle.std.proofs.Common.{◌≡◌, ◌<◌, false, length, arith, get_or, subst, sym, ◌∙◌}
use Rattle.std.proofs.lemmas.Bool.{ne_eqb}
use Rattle.std.proofs.lemmas.List.{get_or_read}
use Rattle.reach.specs.Finds.{is_in, Finds}
use Rattle.reach.proofs.FoundLemmas.{has_room, IsMarked-push}
use Rattle.reach.proofs.found.Found.add.Goals as goal

pub push_reserved-requires : goal.push_reserved-requires
push_reserved-requires c =
    let marks = c.self.inside.marks.items in
    let cells = c.self.inside.cells in
    let in_marks : c.args.cell < length marks = subst (λ (f : Finds). c.args.cell < f.room) (sym c.self.view_is) c.requires in
    let new : is_in cells.items c.args.cell ≡ false = c.self.invariant.marked c.args.cell in_marks ∙ ne_eqb (get_or marks c.args.cell 0) c.self.inside.number (λ same. c.if-index-self.true (get_or_read marks _ _ in_marks c.index.ensures 0 ∙ same)) in
    omega (arith, has_room marks c.self.inside.number cells.items _ c.args.cell c.self.invariant in_marks new, cells.ok.0, cells.ok.1)

pub invariant_of-self : goal.invariant_of-self
invariant_of-self c =
    let marks = c.self.inside.marks.items in
    let cells = c.self.inside.cells in
    let in_marks : c.args.cell < length marks = subst (λ (f : Finds). c.args.cell < f.room) (sym c.self.view_is) c.requires in
    let new : is_in cells.items c.args.cell ≡ false = c.self.invariant.marked c.args.cell in_marks ∙ ne_eqb (get_or marks c.args.cell 0) c.self.inside.number (λ same. c.if-index-self.true (get_or_read marks _ _ in_marks c.index.ensures 0 ∙ same)) in
    rw (c.push_reserved.ensures.items, c.push_reserved.ensures.capacity) (IsMarked-push marks c.self.inside.number cells.items _ c.args.cell c.self.invariant in_marks new)
