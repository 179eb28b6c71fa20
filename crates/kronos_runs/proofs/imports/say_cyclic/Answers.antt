use Rattle.std.proofs.Common.{refl}
use Rattle.clock_import.specs.Text.{cyclic_line}
use Rattle.kronos_runs.proofs.RunLemmas.{front_nothing}
use Rattle.kronos_runs.proofs.LogLemmas.{cyclic_line-some}
use Rattle.kronos_runs.proofs.imports.say_cyclic.Goals as goal

pub returns-in-Err : goal.returns-in-Err
returns-in-Err g c = (front_nothing (cyclic_line c.args.n) (g.K.Sink.held c.args.sink.now) (cyclic_line-some c.args.n), refl)
