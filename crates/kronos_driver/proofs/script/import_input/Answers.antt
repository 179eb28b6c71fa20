use Rattle.std.proofs.Common.{subst}
use Rattle.kronos_runs.specs.Logs.{EndsOnLog}
use Rattle.kronos_driver.proofs.EndsLemmas.{ends_on_log}
use Rattle.kronos_driver.proofs.script.import_input.Goals as goal

pub returns-in-Ok : goal.returns-in-Ok
returns-in-Ok g c = λ words form.
    let ends = subst (λ bs. EndsOnLog c.run_import.result bs (g.K.Sink.held c.args.sink.now) (g.K.Sink.held c.run_import.new.sink) (g.K.Sink.faults c.args.sink.now) (g.K.Sink.faults c.run_import.new.sink)) c.as_slice.ensures.value c.run_import.ensures in
    ends_on_log c.run_import.result words _ _ c.in-Ok.bytes.items (record { form = form; whole = c.in-Ok.ensures.0; calm = c.in-Ok.ensures.1 }) ends
