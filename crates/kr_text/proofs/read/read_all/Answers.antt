use Rattle.std.proofs.Common.{◌≡◌, ◌≤◌, ◌+◌, length, take, arith, length-take}
use Rattle.std.proofs.lemmas.Result.{err_from_is_err_and}
use Rattle.kr_text.proofs.Pieces.{gave_some, gave_too_many}
use Rattle.kr_text.proofs.read.read_all.Goals as goal

pub returns-then-count-room-clause-reads : goal.returns-then-count-room-clause-reads
returns-then-count-room-clause-reads g c =
    let bytes = c.loop-count.bytes.items in
    let piece = take c.in-Ok.count c.read.new.buf in
    let asked = length-take c.min-most.result c.loop-count.chunk in
    let over : length bytes + length piece ≡ c.args.limit + 1 = omega (arith, c.in-Ok.ensures.bound, asked) in
    gave_too_many _ _ (g.S.Source.left c.loop-count.source) _ bytes piece
    c.loop-count.invariant.taken c.in-Ok.ensures.bytes.0 over

pub returns-in_err-extend_from_slice-clause-reads : goal.returns-in_err-extend_from_slice-clause-reads
returns-in_err-extend_from_slice-clause-reads g c =
    let bytes = c.loop-count.bytes.items in
    let piece = take c.in-Ok.count c.read.new.buf in
    let fits : length bytes + length piece ≤ c.args.limit = omega (arith, c.in-Ok.ensures.bound) in
    let p = err_from_is_err_and c.from_residual.result c.from_residual.ensures.1 in
    rw (p.1, p.2)
    (gave_some _ _ (g.S.Source.left c.loop-count.source) _ bytes piece
    c.loop-count.invariant.taken c.in-Ok.ensures.bytes.0 fits)
