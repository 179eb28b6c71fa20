use Rattle.clock_import.specs.Text.{event_lines, order_text}
use Rattle.kronos_runs.proofs.RunLemmas.{went_on}
use Rattle.kronos_runs.proofs.LogLemmas.{stopped_first}
use Rattle.kronos_runs.proofs.imports.write_both.Goals as goal

pub returns-in-Ok : goal.returns-in-Ok
returns-in-Ok g c =
    went_on c.write_order.result (event_lines 1 c.args.events.now) (order_text c.args.pairs.now) (g.K.Sink.held c.args.sink.now) (g.K.Sink.held c.write_events.new.sink) (g.K.Sink.held c.write_order.new.sink) (g.K.Sink.faults c.args.sink.now) (g.K.Sink.faults c.write_events.new.sink) (g.K.Sink.faults c.write_order.new.sink) c.in-Ok.ensures.0 c.in-Ok.ensures.1 c.write_order.ensures

pub returns-in-Err : goal.returns-in-Err
returns-in-Err g c =
    stopped_first (Unit {0}) (Unit {0}) c.in-Err.stop (event_lines 1 c.args.events.now) (order_text c.args.pairs.now) (g.K.Sink.held c.args.sink.now) (g.K.Sink.held c.write_events.new.sink) (g.K.Sink.faults c.args.sink.now) (g.K.Sink.faults c.write_events.new.sink) c.in-Err.ensures
