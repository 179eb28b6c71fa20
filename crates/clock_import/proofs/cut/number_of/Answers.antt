use Rattle.std.proofs.Common.{◌≡◌, arith, sym, ◌∙◌}
use Rattle.std.proofs.lemmas.Fmt.{decimal_injective}
use Rattle.clock_import.proofs.cut.number_of.Goals as goal

pub returns-then-n-eq0 : goal.returns-then-n-eq0
returns-then-n-eq0 c = λ n fit is.
    let same : c.in_ok-n.n ≡ n = decimal_injective c.in_ok-n.n n (omega arith) (omega (arith, fit.high)) (sym c.in_ok-n.ensures.some.1 ∙ is) in
    absurd (omega (arith, fit.low))
