use Rattle.std.proofs.Common.{◌+◌, refl}
use Rattle.clock_import.specs.Text.{event_lines}
use Rattle.kronos_runs.proofs.RunLemmas.{front_nothing}
use Rattle.kronos_runs.proofs.LogLemmas.{event_lines-some}
use Rattle.kronos_runs.proofs.imports.write_some.Goals as goal

pub returns-in-Err : goal.returns-in-Err
returns-in-Err g c =
    (front_nothing (event_lines (c.args.before + 1) c.args.events.now) (g.K.Sink.held c.args.sink.now) (event_lines-some (c.args.before + 1) c.args.events.now c.requires.some), refl)
