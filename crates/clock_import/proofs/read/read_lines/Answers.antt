use Rattle.std.proofs.Common.{◌<◌, length, rules}
use Rattle.clock_import.proofs.ReadLemmas.{reading_more}
use Rattle.clock_import.proofs.read.read_lines.Goals as goal

pub loop-rest-preserved : goal.loop-rest-preserved
loop-rest-preserved c =
    let room : length c.loop-rest.lines.items < 20000 = search rules in
    rw c.in_ok-push.ensures.items (reading_more c.args.bytes.now c.args.processes c.loop-rest.lines.items c.loop-rest.rest.now c.in-Some.text.now c.in-Some.more.now c.line_of.result c.loop-rest.invariant c.in-Some.ensures c.line_of.ensures room)
