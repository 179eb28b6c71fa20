use Rattle.std.proofs.Common.{ap, subst, refl, List}
use mathlib.Core.List.{IsPrefix as Begins}
use Rattle.kr_order.specs.declared.history.Entry.{Entry}
use Rattle.order_board.proofs.LogLemmas.{begins_test}
use Rattle.order_board.proofs.history.Note.begins.Goals as goal

pub returns : goal.returns
returns c =
    let both = c.learn.new.self.log in
    let this : Begins c.self.inside.front.log both =
    subst (λ (l : List Entry). Begins l both) (ap (λ s. s.log) c.again-both.ensures) c.learn.ensures.2 in
    rw (← c.self.view_is, ← c.other.view_is)
    (begins_test c.self.inside.front.log c.other.inside.front.log both c.self.inside.count c.other.inside.count
    c.self.invariant c.other.invariant this c.learn.ensures.3 _ refl)
