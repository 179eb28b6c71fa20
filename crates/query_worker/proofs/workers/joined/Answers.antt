use Rattle.std.proofs.Common.{◌≡◌, ◌*◌, ◌+◌, ◌≤◌, [], ◌∷◌, ◌++◌, drop, length, length-append, map, take, IfOk, subst, sym, ap, ◌∙◌, arith, mul-le-mul_right}
use Rattle.std.specs.Fork.{slice_chunk}
use Rattle.std.proofs.lemmas.List.{length-drop, take_all}
use Rattle.query_worker.specs.Told.{told_after}
use Rattle.query_worker.proofs.RunLemmas.{is_next, told-next}
use Rattle.query_worker.proofs.workers.joined.Goals as goal

pub loop-run-init : goal.loop-run-init
loop-run-init g c =
    let none : 0 ≡ 0 * c.args.size = omega arith in
    record { told = c.in_ok-all.ensures.items ∙ ap (λ k. map (told_after (g.A.Asks.history c.args.order.now)) (take k c.args.queries.now)) none; rest = c.into_iter-run-iterator.ensures.into_iter_gives.0 }

pub loop-run-preserved : goal.loop-run-preserved
loop-run-preserved g c =
    let tell = told_after (g.A.Asks.history c.args.order.now) in
    let queries = c.args.queries.now in
    let n = length c.loop-run.yielded in
    let next = is_next c.args.runs.items n c.in-Some.run' c.next.new.self.rest.items (sym c.loop-run.invariant.rest ∙ c.in-Some.ensures.steps.0) in
    let told : c.in_ok-told.told.items ≡ map tell (slice_chunk queries c.args.size n) = subst (λ run. IfOk run (λ told. told.items ≡ map tell (slice_chunk queries c.args.size n))) (next.is c.in-Some.run' ∙ c.in_ok-told.was) (c.requires.runs n c.in-Some.run' next.below) in
    let longer : length (c.loop-run.yielded ++ c.in-Some.run' ∷ []) ≡ n + 1 = length-append c.loop-run.yielded (c.in-Some.run' ∷ []) in
    record {
      told = c.in_ok-append.ensures.items ∙ told-next tell queries n c.args.size c.loop-run.all.items c.in_ok-told.told.items c.loop-run.invariant.told told ∙ ap (λ k. map tell (take (k * c.args.size) queries)) (sym longer);
      rest = sym next.left ∙ ap (λ k. drop k c.args.runs.items) (sym longer);
    }

pub returns : goal.returns
returns g c =
    let queries = c.args.queries.now in
    let n = length c.loop-run.yielded in
    let rest = c.loop-run.run-iterator.rest in
    let runs = c.args.runs.items in
    let over : length runs ≤ n = omega (arith, length-drop n runs, ap length c.loop-run.invariant.rest, rest.ok.0, c.in-None.ensures.steps.0) in
    let all : length queries ≤ n * c.args.size = omega (arith, c.requires.all, mul-le-mul_right c.args.size over) in
    c.loop-run.invariant.told ∙ ap (map (told_after (g.A.Asks.history c.args.order.now))) (take_all (n * c.args.size) queries all)
