use Rattle.std.proofs.Common.{refl, ◌∙◌}
use Rattle.kronos_runs.proofs.RunLemmas.{line_gathered, all_written}
use Rattle.kronos_runs.proofs.run.turn.Goals as goal

pub returns-then-len-lt-PIECE : goal.returns-then-len-lt-PIECE
returns-then-len-lt-PIECE g c =
    (line_gathered c.args.cluster.now c.step_onto.new.self c.args.event.now c.args.gathered.now.items c.step_onto.new.lines.items (g.K.Sink.held c.args.sink.now) c.in_ok-step_onto.ensures, refl)

pub returns : goal.returns
returns g c =
    let old = c.args.cluster.now in
    let new = c.step_onto.new.self in
    let event = c.args.event.now in
    let before = c.args.gathered.now.items in
    let after = c.step_onto.new.lines.items in
    let does = c.in_ok-step_onto.ensures in
    let turn = line_gathered old new event before after (g.K.Sink.held c.args.sink.now) does in
    (all_written old new event before after c.as_slice.result.now c.clear.new.self.items (g.K.Sink.held c.args.sink.now) (g.K.Sink.held c.write_all.new.sink) turn (c.as_slice.ensures.value ∙ does.lines) c.clear.ensures.items c.in_ok-write_all.ensures.writes, c.in_ok-write_all.ensures.calm)
