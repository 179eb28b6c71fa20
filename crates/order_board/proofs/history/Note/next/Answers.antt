use Rattle.std.proofs.Common.{sym, ◌∙◌, ap}
use Rattle.order_board.proofs.LogLemmas.{grows_moves}
use Rattle.order_board.proofs.history.Note.next.Goals as goal

pub compare_exchange-found-requires : goal.compare_exchange-found-requires
compare_exchange-found-requires c =
    let h = c.requires.head in
    let book = sym (ap (λ w. w.book) h ∙ sym (ap (λ n. n.copies) c.self.view_is)) in
    let offer = c.plain-offer.ensures in
    let pen = c.no_pen-pen.ensures in
    let front = c.again-front.ensures in (
      ap (λ w. w.tracked) h,
      ap (λ s. s.book) front ∙ book,
      pen.0 ∙ (ap (λ s. s.book) front ∙ book),
      offer.0,
      rw (ap (λ w. w.key) h, pen.1, offer.1, offer.3, front)
          (grows_moves c.self.inside.front.log c.args.entry.now c.self.inside.count (sym c.self.invariant)),
    )
