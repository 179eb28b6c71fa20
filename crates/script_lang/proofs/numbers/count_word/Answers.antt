use Rattle.std.proofs.Common.{arith}
use Rattle.script_lang.proofs.ChainLemmas.{no_count}
use Rattle.script_lang.proofs.numbers.count_word.Goals as goal

pub returns-in_err-n-clause-none : goal.returns-in_err-n-clause-none
returns-in_err-n-clause-none c =
    rw c.from_residual-in_err-n.ensures (no_count c.args.most c.args.bytes.now c.in_ok-word.word.now c.split_digits.result.0.now c.split_digits.result.1.now (omega arith) c.in_ok-word.ensures.some c.split_digits.ensures.whole c.split_digits.ensures.digits c.split_digits.ensures.ends c.in_err-n.ensures.none)
