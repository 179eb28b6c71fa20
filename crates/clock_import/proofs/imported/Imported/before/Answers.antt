use Rattle.std.proofs.Common.{◌-◌, get_or, refl}
use Rattle.clock_import.proofs.BeforeLemmas.{before_at}
use Rattle.clock_import.proofs.imported.Imported.before.Goals as goal

pub returns : goal.returns
returns c =
    before_at c.args.self.now c.requires.imported c.args.a.0 c.args.b.0 c.as_slice-events.result.now (get_or c.as_slice-events.result.now (c.args.a.0 - 1) c.index-events-one.result) c.index-events-one.result c.part_of.result c.part_of-2.result c.requires.a c.requires.b c.if-a-b.false c.as_slice-events.ensures refl c.part_of.ensures c.part_of-2.ensures
