use Rattle.live_service.proofs.PassLemmas.{adds_so, lets_go_so}
use Rattle.live_service.proofs.service.Service.add.Goals as goal

pub returns-clause-ok : goal.returns-clause-ok
returns-clause-ok g c =
    adds_so c.args.self.now.id.table c.args.seat.now c.give.new.seat c.args.reader.now c.learn.new.self c.args.behind
    c.add-placed.new.self c.args.entry c.tell-note.result c.add-placed.result c.requires.held c.add-placed.ensures.list
    c.add-placed.ensures.placed c.tell-note.ensures c.learn.ensures.one c.learn.ensures.told c.learn.ensures.rest c.give.ensures.seat
    c.give.ensures.gives

pub returns-clause-err : goal.returns-clause-err
returns-clause-err g c =
    lets_go_so c.args.self.now.id.table c.args.seat.now c.give.new.seat c.args.reader.now c.learn.new.self c.args.behind
    c.add-placed.new.self c.tell-note.result c.add-placed.result c.requires.held c.add-placed.ensures.err c.tell-note.ensures
    c.learn.ensures.one c.learn.ensures.rest c.give.ensures.seat c.give.ensures.gives
