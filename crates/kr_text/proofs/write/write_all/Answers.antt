use Rattle.std.proofs.Common.{rules}
use Rattle.kr_text.proofs.Pieces.{Appends-piece}
use Rattle.kr_text.proofs.write.write_all.Goals as goal

pub loop-done-preserved : goal.loop-done-preserved
loop-done-preserved g c =
    let taken = Appends-piece _ (g.K.Sink.held c.loop-done.sink) (g.K.Sink.held c.write.new.self)
    c.args.text.now c.split_at.result.1.now c.loop-done.done c.in-Ok.count
    c.loop-done.invariant.taken c.split_at.ensures.back c.in-Ok.ensures.bytes in
    record {
      fits = search rules;
      taken = taken;
      calm = search rules;
    }
