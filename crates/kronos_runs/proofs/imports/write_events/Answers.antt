use Rattle.std.proofs.Common.{rules}
use Rattle.kronos_runs.proofs.LogLemmas.{none_written, cut_at, more_written, no_more_written, all_lines_written}
use Rattle.kronos_runs.proofs.imports.write_events.Goals as goal

pub loop-rest-init : goal.loop-rest-init
loop-rest-init g c =
    none_written c.args.events.now (g.K.Sink.held c.args.sink.now) (g.K.Sink.faults c.args.sink.now)

pub loop-rest-preserved : goal.loop-rest-preserved
loop-rest-preserved g c =
    let held = g.K.Sink.held in
    let faults = g.K.Sink.faults in
    let first = c.split_at.result.0.now in
    let others = c.split_at.result.1.now in
    let cut = cut_at _ c.loop-rest.rest.now first others c.split_at.ensures.front c.split_at.ensures.back in
    more_written c.args.events.now c.loop-rest.before c.loop-rest.rest.now first others (held c.args.sink.now) (held c.loop-rest.sink) (held c.write_some.new.sink) (faults c.args.sink.now) (faults c.loop-rest.sink) (faults c.write_some.new.sink) cut c.loop-rest.invariant c.in-Ok.ensures

pub returns-in-Err : goal.returns-in-Err
returns-in-Err g c =
    let held = g.K.Sink.held in
    let faults = g.K.Sink.faults in
    let first = c.split_at.result.0.now in
    let others = c.split_at.result.1.now in
    let cut = cut_at _ c.loop-rest.rest.now first others c.split_at.ensures.front c.split_at.ensures.back in
    no_more_written (Unit {0}) (Unit {0}) c.in-Err.stop c.args.events.now c.loop-rest.before c.loop-rest.rest.now first others (held c.args.sink.now) (held c.loop-rest.sink) (held c.write_some.new.sink) (faults c.args.sink.now) (faults c.loop-rest.sink) (faults c.write_some.new.sink) cut c.loop-rest.invariant c.in-Err.ensures

pub returns : goal.returns
returns g c =
    all_lines_written c.args.events.now c.loop-rest.before c.loop-rest.rest.now (g.K.Sink.held c.args.sink.now) (g.K.Sink.held c.loop-rest.sink) (g.K.Sink.faults c.args.sink.now) (g.K.Sink.faults c.loop-rest.sink) (search rules) c.loop-rest.invariant
