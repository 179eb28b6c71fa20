use Rattle.std.proofs.Common.{rules, ap, ◌≡◌, ◌∙◌}
use Rattle.std.proofs.lemmas.List.Elements.{All-push}
use Rattle.order_board.specs.Views.{fresh_reader}
use Rattle.order_board.proofs.writer.readers_of.Goals as goal

pub loop-preserved : goal.loop-preserved
loop-preserved c =
    let same = c.loop.invariant.same in record {
      same = c.in_ok-reader.ensures.same ∙ same;
      fresh = rw c.in_ok-push.ensures.items
          (All-push (λ reader. reader ≡ fresh_reader c.args.writer.now.copies) c.loop.readers.items c.in_ok-reader.field-0
          c.loop.invariant.fresh (c.in_ok-reader.ensures.reader ∙ ap (λ w. fresh_reader w.copies) same));
      count = search rules;
    }
