use Rattle.order_board.proofs.RuleLemmas.{shows, goes_on_next}
use Rattle.order_board.proofs.publishing.publish.Goals as goal

pub publish_as-requires : goal.publish_as-requires
publish_as-requires g c next is =
    let all = rw c.requires.pending at c.in-Ok.ensures.pending in
    rw c.append.ensures.desk
    (shows _ _ c.args.writer.desk.shown.value next
    (goes_on_next c.args.writer.desk.shown.value next _ (rw (all, c.append.ensures.desk) at is) c.requires.next))
