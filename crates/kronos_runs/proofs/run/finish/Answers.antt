use Rattle.kr_world.specs.Lines.{end_lines}
use Rattle.kronos_runs.proofs.RunLemmas.{went_on}
use Rattle.kronos_runs.proofs.run.finish.Goals as goal

pub returns-in-Ok : goal.returns-in-Ok
returns-in-Ok g c =
    went_on c.write_history.result c.args.gathered.now (end_lines c.args.cluster.now.world.history) (g.K.Sink.held c.args.sink.now) (g.K.Sink.held c.write.new.sink) (g.K.Sink.held c.write_history.new.sink) (g.K.Sink.faults c.args.sink.now) (g.K.Sink.faults c.write.new.sink) (g.K.Sink.faults c.write_history.new.sink) c.in-Ok.ensures.0 c.in-Ok.ensures.1 c.write_history.ensures
