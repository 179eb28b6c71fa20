use Rattle.std.proofs.Common.{◌≡◌, sym, ◌∙◌, arith}
use Rattle.std.proofs.lemmas.Fmt.{decimal_injective}
use Rattle.kr_text.proofs.number.read_number.Goals as goal

pub returns-else-n-most-clause-none : goal.returns-else-n-most-clause-none
returns-else-n-most-clause-none c n le is_text =
    let same : n ≡ c.in_ok-n.n = decimal_injective n c.in_ok-n.n (omega arith) (omega arith) (sym is_text ∙ c.in_ok-n.ensures.some) in
    omega arith
