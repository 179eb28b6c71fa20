use Rattle.order_board.proofs.RuleLemmas.{shows, goes_on_same}
use Rattle.order_board.proofs.publishing.open.Goals as goal

pub publish_as-requires : goal.publish_as-requires
publish_as-requires g c next is =
    let copy = c.args.writer.desk.shown.value in
    shows _ _ copy next (goes_on_same copy next (rw c.requires.pending at is) c.requires.log)
