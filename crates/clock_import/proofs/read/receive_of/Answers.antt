use Rattle.std.proofs.Common.{sym, subst}
use Rattle.clock_import.specs.Reading.{IsReadAs}
use Rattle.clock_import.proofs.ReadLemmas.{bad_receive}
use Rattle.clock_import.proofs.read.receive_of.Goals as goal

pub returns-in-None : goal.returns-in-None
returns-in-None c = λ text is.
    subst (IsReadAs c.args.processes text) (sym c.bad.ensures) (bad_receive c.args.processes c.args.words.now text c.in-None.ensures is)
