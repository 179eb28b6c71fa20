use Rattle.std.proofs.Common.{◌++◌, refl, sym, ap, ◌∙◌, arith}
use Rattle.std.specs.Prelude.{codes}
use Rattle.std.proofs.lemmas.Bool.{false≢true}
use Rattle.std.proofs.lemmas.Fmt.{decimal_digit}
use Rattle.script_lang.proofs.KindLemmas.{no_tick}
use Rattle.script_lang.proofs.events.tick_of.Goals as goal

pub returns-then-is : goal.returns-then-is
returns-then-is c =
    (record { fit = tt; named = refl }, c.if-is.ensures.0 refl ∙ ap (λ n. codes " " ++ n) (sym (decimal_digit 0 (omega arith))))

pub returns-in_err-server : goal.returns-in_err-server
returns-in_err-server c =
    rw c.from_residual.ensures (no_tick c.args.words.now (λ manager. false≢true (c.if-is.ensures.1 (manager ∙ ap (λ n. codes " " ++ n) (decimal_digit 0 (omega arith))))) c.in_err-server.ensures)
