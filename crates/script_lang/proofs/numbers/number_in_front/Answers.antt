use Rattle.std.proofs.Common.{arith}
use Rattle.script_lang.proofs.NumberLemmas.{no_number}
use Rattle.script_lang.proofs.numbers.number_in_front.Goals as goal

pub returns-in_err-n-clause-none : goal.returns-in_err-n-clause-none
returns-in_err-n-clause-none c =
    rw c.from_residual.ensures (no_number c.args.most c.args.bytes.now c.split_digits.result.0.now c.split_digits.result.1.now (omega arith) c.split_digits.ensures.whole c.split_digits.ensures.digits c.split_digits.ensures.ends c.in_err-n.ensures)
