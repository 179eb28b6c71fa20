use Rattle.std.proofs.Common.{length, ap, arith, subst}
use Rattle.kr_order.specs.Prefix.{IsPrefix}
use Rattle.live_service.proofs.CloseLemmas.{kept_push, made_more, same_copies}
use Rattle.live_service.proofs.close.+gather.Goals as goal

pub close_whole-requires-clause-whole : goal.close_whole-requires-clause-whole
close_whole-requires-clause-whole g t c =
    let none = c.in-None.ensures.none in
    omega (arith, c.requires.whole, ap length none.0, ap (λ s. s.parts) none.2)

pub settle-requires : goal.settle-requires
settle-requires g t c =
    same_copies c.gather-behind.result.copies c.in-Some.reader.copies c.args.turn.name c.gather-behind.ensures.name
    c.in-Some.ensures.some.copies

pub returns-in-Some-clause-count : goal.returns-in-Some-clause-count
returns-in-Some-clause-count g t c =
    let last = c.in-Some.ensures.some in
    let made = made_more c.args.passes.items c.join_last.new.passes.items last.pass last.last in
    omega (arith, c.gather-behind.ensures.count, last.gives, made)

pub returns-in-Some-clause-each : goal.returns-in-Some-clause-each
returns-in-Some-clause-each g t c =
    let last = c.in-Some.ensures.some in
    kept_push c.gather-behind.result.list c.args.passes.items c.join_last.new.passes.items last.pass last.last
    c.gather-behind.ensures.each (subst (λ l. IsPrefix l c.gather-behind.result.list) last.known c.settle.ensures) last.commands
