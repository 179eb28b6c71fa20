use Rattle.std.proofs.Common.{arith}
use Rattle.clock_import.proofs.ReadLemmas.{both_cut}
use Rattle.clock_import.proofs.read.two_of.Goals as goal

pub returns-in_err-process : goal.returns-in_err-process
returns-in_err-process c =
    rw c.from_residual-in_err-process.ensures (λ pair fit same. c.in_err-process.ensures pair.0 fit.first (both_cut c.args.words.now c.in_ok-first.first.now c.in_ok-first.second.now pair.0 pair.1 (omega (arith, fit.first.high)) c.in_ok-first.ensures.0 c.in_ok-first.ensures.1 same).0)

pub returns-in_err-message : goal.returns-in_err-message
returns-in_err-message c =
    rw c.from_residual-in_err-message.ensures (λ pair fit same. c.in_err-message.ensures pair.1 fit.second (both_cut c.args.words.now c.in_ok-first.first.now c.in_ok-first.second.now pair.0 pair.1 (omega (arith, fit.first.high)) c.in_ok-first.ensures.0 c.in_ok-first.ensures.1 same).1)
