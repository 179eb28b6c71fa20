use Rattle.std.proofs.Common.{◌≡◌, ◌+◌, ◌<◌, ◌++◌, ◌∷◌, [], length, ap, sym, ◌∙◌, arith, append_assoc}
use Rattle.kr_order.specs.Done.{done_of}
use Rattle.chain_server.proofs.AppliedLemmas.{IsPrefix-next, length-next}
use Rattle.chain_server.proofs.advance.apply_upto.Goals as goal

pub loop-place-preserved : goal.loop-place-preserved
loop-place-preserved g c =
    let log = c.args.log.now in
    let old = g.B.Board.stands c.loop-place.board in
    let new = g.B.Board.stands c.apply_next.new.board in
    let count : length old ≡ c.loop-place._place = c.loop-place.invariant.count in
    let applied = done_of (g.B.Board.stands c.args.board.now) in
    let last = c.in_ok-apply_next.field-0 ∷ [] in
    let below : length old < length log = omega arith in
    record {
      prefix = IsPrefix-next log old new below c.in_ok-apply_next.ensures.prefix;
      count = length-next log old new below c.in_ok-apply_next.ensures.prefix ∙ ap (λ n. n + 1) count;
      done = c.in_ok-apply_next.ensures.done ∙ ap (λ dones. dones ++ last) c.loop-place.invariant.done ∙ append_assoc applied c.loop-place.committed last ∙ ap (λ dones. applied ++ dones) (sym c.in_ok-push.ensures.ok);
    }
