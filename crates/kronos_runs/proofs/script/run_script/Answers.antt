use Rattle.std.proofs.Common.{refl, sym, subst}
use Rattle.std.specs.Prelude.{Err}
use Rattle.script_lang.specs.Reading.{Reads}
use Rattle.script_lang.specs.Script.{Parses}
use Rattle.kr_world.specs.Run.{text_of}
use Rattle.kronos_runs.specs.Due.{IsRunOf, bad_line}
use Rattle.kronos_runs.specs.EndsOn.{EndsOnBytes}
use Rattle.kronos_runs.proofs.ScriptLemmas.{run_ends, refusal_ends}
use Rattle.kronos_runs.proofs.script.run_script.Goals as goal

pub returns-in-Err-BadLine : goal.returns-in-Err-BadLine
returns-in-Err-BadLine g c =
    let held = g.K.Sink.held in
    let faults = g.K.Sink.faults in
    let ends = refusal_ends c.say_bad_line.result c.in-Err-BadLine.n c.args.bytes.now (bad_line c.in-Err-BadLine.n) (held c.args.sink.now) (held c.say_bad_line.new.sink) (faults c.args.sink.now) (faults c.say_bad_line.new.sink) (record { bad = subst (λ e. Reads c.args.bytes.now (Err e)) c.in-Err-BadLine.field-0-is c.in-Err-BadLine.ensures; text_is = refl }) c.say_bad_line.ensures in
    subst (λ e. EndsOnBytes e c.args.bytes.now (held c.args.sink.now) (held c.say_bad_line.new.sink) (faults c.args.sink.now) (faults c.say_bad_line.new.sink)) (sym c.exit_of.ensures) ends

pub returns : goal.returns
returns g c =
    let held = g.K.Sink.held in
    let faults = g.K.Sink.faults in
    let script = c.in-Ok.script in
    let parses : Parses c.args.bytes.now script = c.in-Ok.ensures in
    let run : IsRunOf c.args.bytes.now (text_of script) = record {
      script = script;
      parses = parses;
      text_is = refl;
      lawful = c.runs_are_lawful.ensures script parses.fit;
      answered = c.runs_are_calm.ensures script parses.fit;
    } in
    let ends = run_ends c.run.result c.args.bytes.now (text_of script) (held c.args.sink.now) (held c.run.new.sink) (faults c.args.sink.now) (faults c.run.new.sink) run c.run.ensures in
    subst (λ e. EndsOnBytes e c.args.bytes.now (held c.args.sink.now) (held c.run.new.sink) (faults c.args.sink.now) (faults c.run.new.sink)) (sym c.exit_of-2.ensures) ends
