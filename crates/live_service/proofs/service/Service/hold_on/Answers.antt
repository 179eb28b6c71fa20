use Rattle.kr_order.proofs.PrefixLemmas.{IsPrefix-trans}
use Rattle.live_service.proofs.service.Service.hold_on.Goals as goal

pub returns-clause-own : goal.returns-clause-own
returns-clause-own g c =
    IsPrefix-trans c.args.reader.now.list c.is_all.new.reader.list c.hold.new.reader.list c.is_all.ensures.own c.hold.ensures.own
