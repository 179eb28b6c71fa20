use Rattle.std.proofs.Common.{◌++◌, ap, length, arith}
use Rattle.std.specs.Fmt.{decimal}
use Rattle.script_lang.proofs.NumberLemmas.{behind_first, tail_is}
use Rattle.script_lang.proofs.numbers.two_in_front.Goals as goal

pub returns-in_default-clause-none : goal.returns-in_default-clause-none
returns-in_default-clause-none c = λ a sign b rest two.
    let behind = behind_first c.args.limit c.args.then_limit c.args.bytes.now c.in_ok-first.first c.in_ok-first.rest.now a sign b rest (omega arith) c.in_ok-first.ensures.some two in
    absurd (omega (arith, ap length behind))

pub returns-in_err-second-clause-none : goal.returns-in_err-second-clause-none
returns-in_err-second-clause-none c = rw c.from_residual-in_err-second.ensures (λ a sign b rest two.
    let behind = behind_first c.args.limit c.args.then_limit c.args.bytes.now c.in_ok-first.first c.in_ok-first.rest.now a sign b rest (omega arith) c.in_ok-first.ensures.some two in
    c.in_err-second.ensures.none b rest (record { fit = two.second_fits; whole = tail_is c.in_ok-first.rest.now sign (decimal b ++ rest) behind; ends = two.ends }))
