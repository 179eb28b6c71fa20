use Rattle.std.proofs.Common.{arith}
use Rattle.script_lang.proofs.WordLemmas.{not_two}
use Rattle.script_lang.proofs.numbers.two_numbers.Goals as goal

pub returns-in_err-second : goal.returns-in_err-second
returns-in_err-second c =
    rw c.from_residual-in_err-second.ensures (not_two c.args.limit c.args.then_limit c.args.words.now c.in_ok-first.first c.in_ok-first.rest.now (omega arith) c.in_ok-first.ensures.some c.in_err-second.ensures)
