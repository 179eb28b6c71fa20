use Rattle.std.proofs.Common.{◌≡◌, length, sym, ap, ◌∙◌}
use Rattle.live_service.specs.Runs.{AreNumbered}
use Rattle.live_service.proofs.RunLemmas.{numbered_same, all_passes, lawful}
use Rattle.live_service.proofs.run.run_live.Goals as goal

pub close-journal-requires : goal.close-journal-requires
close-journal-requires g c =
    let olds = c.callers_of-callers.result.items in
    let news = c.call_on_threads.new.callers.items in
    let numbered : AreNumbered 1 news = numbered_same 1 olds news c.call_on_threads.ensures.many c.call_on_threads.ensures.clients c.callers_of-callers.ensures.numbered in
    let many : length news ≡ c.in_ok-service.service.passes = c.call_on_threads.ensures.many ∙ c.callers_of-callers.ensures.many ∙ ap (λ p. p.passes) c.in_ok-service.ensures.passes ∙ sym c.in_ok-service.ensures.service in
    all_passes c.in_ok-service.service c.args.plan.now.calls news c.parted-passes.result.0.items c.parted-passes.ensures.passes c.call_on_threads.ensures.run numbered many

pub returns : goal.returns
returns g c =
    let olds = c.callers_of-callers.result.items in
    let news = c.call_on_threads.new.callers.items in
    let closed = c.close-journal.ensures in
    let numbered : AreNumbered 1 news = numbered_same 1 olds news c.call_on_threads.ensures.many c.call_on_threads.ensures.clients c.callers_of-callers.ensures.numbered in
    let many : length news ≡ c.args.plan.now.clients = c.call_on_threads.ensures.many ∙ c.callers_of-callers.ensures.many ∙ ap (λ p. p.passes) c.in_ok-service.ensures.passes in
    let right = lawful c.in_ok-service.service.id c.args.plan.now news c.parted-passes.result.0.items c.from_vec.result closed.0 c.requires.each c.call_on_threads.ensures.run numbered (c.parted-passes.ensures.enough c.if-failed.false) many c.parted-passes.ensures.passes (c.from_vec.ensures ∙ c.parted-passes.ensures.calls) closed.2 in
    (closed.0, closed.1, right)
