use Rattle.std.proofs.Common.{◌+◌, sym, ap, ◌∙◌}
use Rattle.live_service.specs.Own.{entry_of}
use Rattle.live_service.proofs.PassLemmas.{Held, answered, unanswered}
use Rattle.live_service.proofs.service.Service.make.Goals as goal

pub invariant_of-pass : goal.invariant_of-pass
invariant_of-pass g c =
    let hold = c.hold-behind.ensures in
    let took : Held c.pass.inside.seat c.hold-behind.new.seat c.pass.inside.reader c.hold-behind.new.reader = record
    { seat_is = hold.seat; empties = hold.empties; reader_is = hold.reader; begins = hold.own } in
    answered c.pass.inside.client c.pass.inside.seat c.hold-behind.new.seat c.add-placed.new.seat c.pass.inside.reader
    c.hold-behind.new.reader c.add-placed.new.reader c.pass.inside.mark c.args.command c.entry-entry.result c.add-placed.result.0
    c.in-Ok.placed c.add-placed.result.1 c.pass.invariant took c.add-placed.ensures.ok c.in-Ok.is
    (c.entry-entry.ensures ∙ ap (λ pass. entry_of pass.client (pass.made + 1) c.args.command) (sym c.pass.view_is))

pub invariant_of-pass-in-Err-1 : goal.invariant_of-pass-in-Err-1
invariant_of-pass-in-Err-1 g c =
    let hold = c.hold-behind.ensures in
    let took : Held c.pass.inside.seat c.hold-behind.new.seat c.pass.inside.reader c.hold-behind.new.reader = record
    { seat_is = hold.seat; empties = hold.empties; reader_is = hold.reader; begins = hold.own } in
    unanswered c.pass.inside.client c.pass.inside.seat c.hold-behind.new.seat c.add-placed.new.seat c.pass.inside.reader
    c.hold-behind.new.reader c.add-placed.new.reader c.pass.inside.mark c.add-placed.result.0 c.in-Err.field-0 c.pass.invariant took
    c.add-placed.ensures.err c.in-Err.is
