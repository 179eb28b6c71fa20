use Rattle.live_service.proofs.AllLemmas.{two_passes}
use Rattle.uses_service.proofs.SharedLemmas.{two_pushed, journal_many, journal_goes_on}
use Rattle.uses_service.proofs.shared.close_both.Goals as goal

pub close-requires : goal.close-requires
close-requires g c =
    two_passes c.args.service c.push_reserved-2.new.self.items c.args.one c.args.other
    (two_pushed c.args.all.items c.push_reserved.new.self.items c.push_reserved-2.new.self.items c.args.one c.args.other c.requires.empty
    c.push_reserved.ensures.items c.push_reserved-2.ensures.items) c.requires.one.0 c.requires.other.0 c.requires.many c.requires.one.1
    c.requires.other.1

pub returns-clause-many : goal.returns-clause-many
returns-clause-many g c =
    journal_many c.args.one c.args.other c.push_reserved-2.new.self.items c.close.result c.close.ensures.0
    (two_pushed c.args.all.items c.push_reserved.new.self.items c.push_reserved-2.new.self.items c.args.one c.args.other c.requires.empty
    c.push_reserved.ensures.items c.push_reserved-2.ensures.items) c.close.ensures.1 c.close.ensures.2

pub returns-clause-known : goal.returns-clause-known
returns-clause-known g c =
    journal_goes_on c.args.one c.args.other c.push_reserved-2.new.self.items c.close.result c.close.ensures.0
    (two_pushed c.args.all.items c.push_reserved.new.self.items c.push_reserved-2.new.self.items c.args.one c.args.other c.requires.empty
    c.push_reserved.ensures.items c.push_reserved-2.ensures.items) c.close.ensures.1 c.close.ensures.2
