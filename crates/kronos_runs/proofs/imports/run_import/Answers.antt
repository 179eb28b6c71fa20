use Rattle.std.proofs.Common.{refl, sym, subst}
use Rattle.std.specs.Prelude.{Err}
use Rattle.clock_import.specs.Imported.{Imports}
use Rattle.clock_import.specs.Text.{cyclic_line}
use Rattle.kronos_runs.specs.Logs.{EndsOnLog}
use Rattle.kronos_runs.proofs.LogLemmas.{cycle_ends}
use Rattle.kronos_runs.proofs.imports.run_import.Goals as goal

pub returns-in-Err-Cyclic : goal.returns-in-Err-Cyclic
returns-in-Err-Cyclic g c =
    let held = g.K.Sink.held in
    let faults = g.K.Sink.faults in
    let n = c.in-Err-Cyclic.line in
    let ends = cycle_ends c.say_cyclic.result n c.args.bytes.now (cyclic_line n) (held c.args.sink.now) (held c.say_cyclic.new.sink) (faults c.args.sink.now) (faults c.say_cyclic.new.sink) (record { cyclic = subst (λ e. Imports c.args.bytes.now (Err e)) c.in-Err-Cyclic.field-0-is c.in-Err-Cyclic.ensures.answer; text_is = refl }) c.say_cyclic.ensures in
    subst (λ e. EndsOnLog e c.args.bytes.now (held c.args.sink.now) (held c.say_cyclic.new.sink) (faults c.args.sink.now) (faults c.say_cyclic.new.sink)) (sym c.exit_of-in-Err-Cyclic.ensures) ends
