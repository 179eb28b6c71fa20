use Rattle.std.proofs.Common.{sym, subst, IfNone}
use Rattle.script_lang.specs.Script.{BeginsWithSize}
use Rattle.script_lang.proofs.SizeLemmas.{begins_so}
use Rattle.script_lang.proofs.read.size_line.Goals as goal

pub returns-then-sign-ne32-clause-none : goal.returns-then-sign-ne32-clause-none
returns-then-sign-ne32-clause-none c = λ found.
    c.if-sign-ne32.true (begins_so c.args.bytes.now c.in_ok-numbers.numbers.now c.in_ok-servers.servers c.in_ok-servers.sign c.in_ok-servers.clients c.in_ok-servers.end.now c.in_ok-numbers.ensures.some c.in_ok-servers.ensures.some found).0

pub returns-in_err-rest-clause-none : goal.returns-in_err-rest-clause-none
returns-in_err-rest-clause-none c =
    subst (λ r. IfNone r (BeginsWithSize c.args.bytes.now → ⊥)) (sym c.from_residual-in_err-rest.ensures) (λ found. c.in_err-rest.ensures.none found.2 (begins_so c.args.bytes.now c.in_ok-numbers.numbers.now c.in_ok-servers.servers c.in_ok-servers.sign c.in_ok-servers.clients c.in_ok-servers.end.now c.in_ok-numbers.ensures.some c.in_ok-servers.ensures.some found).1)
