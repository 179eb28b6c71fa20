use Rattle.std.proofs.Common.{◌≡◌, ◌≤◌, ◌+◌, ◌-◌, ◌++◌, length, replicate, ap, ◌∙◌, arith}
use Rattle.std.specs.Vec.{vec_len, vec_capacity}
use Rattle.std.proofs.lemmas.List.{take_all}
use Rattle.reach.proofs.FoundLemmas.{IsMarked-fit}
use Rattle.reach.proofs.found.Found.fit.Goals as goal

pub invariant_of-self-in-Continue-branch-2 : goal.invariant_of-self-in-Continue-branch-2
invariant_of-self-in-Continue-branch-2 c =
    let marks = c.self.inside.marks in
    let cells = c.self.inside.cells in
    let more = c.args.room - vec_len marks in
    let grown : c.resize.new.self.items ≡ marks.items ++ replicate more 0 = c.in_ok-resize.ensures.items ∙ ap (λ ms. ms ++ replicate more 0) (take_all c.args.room marks.items (omega (arith, marks.ok.0))) in
    let reserved = c.in_ok-reserve.ensures in
    let room : length marks.items + more ≤ vec_capacity c.reserve.new.self = omega (arith, marks.ok.0, cells.ok.0, reserved.ok, reserved.len, c.len.ensures, c.saturating_sub.ensures) in
    rw (grown, reserved.items) (IsMarked-fit marks.items c.self.inside.number cells.items (vec_capacity cells) (vec_capacity c.reserve.new.self) more c.self.invariant room)
