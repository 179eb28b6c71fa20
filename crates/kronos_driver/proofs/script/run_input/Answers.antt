use Rattle.std.proofs.Common.{subst}
use Rattle.kronos_runs.specs.EndsOn.{EndsOnBytes}
use Rattle.kronos_driver.proofs.EndsLemmas.{ends_on_bytes}
use Rattle.kronos_driver.proofs.script.run_input.Goals as goal

pub returns-in-Ok : goal.returns-in-Ok
returns-in-Ok g c = λ words form.
    let ends = subst (λ bs. EndsOnBytes c.run_script.result bs (g.K.Sink.held c.args.sink.now) (g.K.Sink.held c.run_script.new.sink) (g.K.Sink.faults c.args.sink.now) (g.K.Sink.faults c.run_script.new.sink)) c.as_slice.ensures.value c.run_script.ensures in
    ends_on_bytes c.run_script.result words _ _ c.in-Ok.bytes.items (record { form = form; whole = c.in-Ok.ensures.0; calm = c.in-Ok.ensures.1 }) ends
