use Rattle.std.proofs.Common.{ap, sym, ◌∙◌, true, Result, Ok, Err, OnErr}
use Rattle.std.proofs.lemmas.Bool.{false≢true}
use Rattle.order_board.specs.declared.copies.OrderCopy.{OrderCopy}
use Rattle.order_board.specs.Views.{WriterView}
use Rattle.order_board.proofs.writer.BoardWriter.apply.Goals as goal

on_err : {T E : Type 0} (r : Result T E) (P : Type 0) → P → OnErr r P
on_err {T} {E} (Ok _) P p = tt
on_err {T} {E} (Err _) P p = p

pub returns-in_err-prepared-clause-err : goal.returns-in_err-prepared-clause-err
returns-in_err-prepared-clause-err g c = on_err _ _ (ap (λ (w : WriterView). record w { failed = true }) c.self.view_is)

pub returns-in_err-growth-clause-err : goal.returns-in_err-growth-clause-err
returns-in_err-growth-clause-err g c = on_err _ _ (ap (λ (w : WriterView). record w { failed = true }) c.self.view_is)

pub returns-in_err-replace_with-clause-err : goal.returns-in_err-replace_with-clause-err
returns-in_err-replace_with-clause-err g c =
    let seen : OrderCopy → WriterView = λ copy. record { list = copy.state.history; failed = true; copies = c.self.inside.history.copies } in
    on_err _ _ (ap seen c.in_err-replace_with.ensures.1.1.1.1 ∙ ap (λ (w : WriterView). record w { failed = true }) c.self.view_is)

pub invariant_of-self-in_err-replace_with : goal.invariant_of-self-in_err-replace_with
invariant_of-self-in_err-replace_with g c =
    let was = c.self.invariant in
    let same = sym (ap (λ (copy : OrderCopy). copy.state.history) c.in_err-replace_with.ensures.1.1.1.1) in
    record {
      published = c.in_err-replace_with.ensures.0;
      copies = was.copies ∙ sym c.in_err-replace_with.ensures.1.1.0;
      history = was.history ∙ same;
      same = c.prepare.ensures.history ∙ was.same ∙ same;
      idle = λ calm. absurd (false≢true (sym calm));
    }
