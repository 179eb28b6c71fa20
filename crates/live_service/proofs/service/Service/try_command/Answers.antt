use Rattle.std.proofs.Common.{◌+◌, length, ap, ◌∙◌, subst}
use Rattle.live_service.specs.Own.{entry_of}
use Rattle.live_service.specs.Commands.{Fails, pass_view}
use Rattle.live_service.proofs.PassLemmas.{Held, took_on, answered, unanswered, refused}
use Rattle.live_service.proofs.service.Service.try_command.Goals as goal

pub returns-then-pass : goal.returns-then-pass
returns-then-pass g c =
    subst (λ pass. Fails pass (pass_view c.pass.inside.client c.give.new.seat c.pass.inside.reader c.pass.inside.mark
    c.pass.inside.failed)) c.pass.view_is (refused c.pass.inside.client c.pass.inside.seat c.try_take.new.seat c.give.new.seat
    c.pass.inside.reader c.pass.inside.mark c.pass.inside.failed (length c.in-Ok.behind.list) c.if-pass.true c.in-Ok.ensures.ok
    c.give.ensures.seat c.give.ensures.gives)

pub invariant_of-pass-in-Ok-placed : goal.invariant_of-pass-in-Ok-placed
invariant_of-pass-in-Ok-placed g c =
    let hold = c.hold_on-behind.ensures in
    let took : Held c.pass.inside.seat c.hold_on-behind.new.seat c.pass.inside.reader c.hold_on-behind.new.reader = took_on
    c.pass.inside.seat c.try_take.new.seat c.hold_on-behind.new.seat c.pass.inside.reader c.hold_on-behind.new.reader
    (length c.in-Ok.behind.list) c.in-Ok.ensures.ok hold.seat hold.empties hold.reader hold.own in
    answered c.pass.inside.client c.pass.inside.seat c.hold_on-behind.new.seat c.add-placed.new.seat c.pass.inside.reader
    c.hold_on-behind.new.reader c.add-placed.new.reader c.pass.inside.mark c.args.command
    (entry_of c.pass.inside.client (c.gives-seq.result + 1) c.args.command) c.add-placed.result.0 c.in-Ok-placed.placed
    c.add-placed.result.1 c.pass.invariant took c.add-placed.ensures.ok c.in-Ok-placed.is
    (ap (λ n. entry_of c.pass.inside.client (n + 1) c.args.command) (c.gives-seq.ensures ∙ ap (λ s. s.gives) c.in-Ok.ensures.ok))

pub invariant_of-pass-in-Err-placed : goal.invariant_of-pass-in-Err-placed
invariant_of-pass-in-Err-placed g c =
    let hold = c.hold_on-behind.ensures in
    let took : Held c.pass.inside.seat c.hold_on-behind.new.seat c.pass.inside.reader c.hold_on-behind.new.reader = took_on
    c.pass.inside.seat c.try_take.new.seat c.hold_on-behind.new.seat c.pass.inside.reader c.hold_on-behind.new.reader
    (length c.in-Ok.behind.list) c.in-Ok.ensures.ok hold.seat hold.empties hold.reader hold.own in
    unanswered c.pass.inside.client c.pass.inside.seat c.hold_on-behind.new.seat c.add-placed.new.seat c.pass.inside.reader
    c.hold_on-behind.new.reader c.add-placed.new.reader c.pass.inside.mark c.add-placed.result.0 c.in-Err-placed.field-0
    c.pass.invariant took c.add-placed.ensures.err c.in-Err-placed.is
