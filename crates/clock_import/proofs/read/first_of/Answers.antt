use Rattle.std.proofs.Common.{sym, ◌∙◌}
use Rattle.std.specs.Prelude.{codes}
use Rattle.std.specs.Fmt.{decimal}
use Rattle.std.proofs.lemmas.List.{append_cancel_left}
use Rattle.clock_import.proofs.ReadLemmas.{no_first, other_first}
use Rattle.clock_import.proofs.read.first_of.Goals as goal

pub returns-in_err-text-clause-none : goal.returns-in_err-text-clause-none
returns-in_err-text-clause-none c = rw c.from_residual.ensures (no_first c.args.bytes.now c.in_err-text.ensures)

pub returns-in_err-word-clause-none : goal.returns-in_err-word-clause-none
returns-in_err-word-clause-none c =
    rw c.from_residual-in_err-word.ensures (other_first c.args.bytes.now c.in_ok-text.text.now c.in_ok-text.rest.now c.in_ok-text.ensures (λ n fit. c.in_err-word.ensures.none (decimal n)))

pub returns-in_err-processes-clause-none : goal.returns-in_err-processes-clause-none
returns-in_err-processes-clause-none c =
    rw c.from_residual-in_err-processes.ensures (other_first c.args.bytes.now c.in_ok-text.text.now c.in_ok-text.rest.now c.in_ok-text.ensures (λ n fit same. c.in_err-processes.ensures n fit (append_cancel_left (codes "processes ") c.in_ok-word.word.now (decimal n) (sym c.in_ok-word.ensures.some ∙ same))))
