use Rattle.std.proofs.Common.{◌+◌, ◌∷◌, ◌++◌, [], sym, ap, ◌∙◌, arith}
use Rattle.std.specs.Prelude.{map}
use Rattle.std.specs.List.{range_with_len}
use Rattle.std.proofs.lemmas.List.FromFn.{map-range_with_len_more}
use Rattle.clock_import.specs.Joins.{joined_at}
use Rattle.clock_import.proofs.ClockLemmas.{join_at-found}
use Rattle.clock_import.proofs.clocks.joined.Goals as goal

pub loop-i-preserved : goal.loop-i-preserved
loop-i-preserved c =
    c.in_ok-push.ensures.items ∙ ap (λ l. l ++ c.join_at.result ∷ []) c.loop-i.invariant
    ∙ ap (λ v. map (joined_at c.args.process c.args.link.now c.args.events.now) (range_with_len 1 c.loop-i.i) ++ v ∷ [])
    (join_at-found c.args.process c.args.link.now c.args.events.now c.clock_of_event-prior.result.now
    c.clock_of_event-source.result.now (c.loop-i.i + 1) c.join_at.result c.clock_of_event-prior.ensures
    c.clock_of_event-source.ensures c.join_at.ensures)
    ∙ sym (map-range_with_len_more (joined_at c.args.process c.args.link.now c.args.events.now) 1
    c.loop-i.i (c.loop-i.i + 1) (omega arith))
