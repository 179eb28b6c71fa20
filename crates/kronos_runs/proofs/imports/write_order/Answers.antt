use Rattle.std.proofs.Common.{refl}
use Rattle.clock_import.specs.Text.{order_text}
use Rattle.kronos_runs.proofs.RunLemmas.{front_nothing}
use Rattle.kronos_runs.proofs.LogLemmas.{order_text-some}
use Rattle.kronos_runs.proofs.imports.write_order.Goals as goal

pub returns-in-Err : goal.returns-in-Err
returns-in-Err g c = (front_nothing (order_text c.args.pairs.now) (g.K.Sink.held c.args.sink.now) (order_text-some c.args.pairs.now), refl)
