use Rattle.std.proofs.Common.{sym, subst, IfNone}
use Rattle.script_lang.specs.Live.{BeginsWithClients}
use Rattle.script_lang.proofs.LiveLineLemmas.{line_ends}
use Rattle.script_lang.proofs.live.clients_line.Goals as goal

pub returns-in_err-rest-clause-none : goal.returns-in_err-rest-clause-none
returns-in_err-rest-clause-none c =
    subst (λ r. IfNone r (BeginsWithClients c.args.bytes.now → ⊥)) (sym c.from_residual-in_err-rest.ensures) (λ found. c.in_err-rest.ensures.none found.1 (line_ends c.args.bytes.now c.in_ok-number.number.now c.in_ok-clients.clients c.in_ok-clients.end.now c.in_ok-number.ensures.some c.in_ok-clients.ensures.some found))
