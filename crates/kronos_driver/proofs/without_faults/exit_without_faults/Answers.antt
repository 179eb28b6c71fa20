use Rattle.kronos_driver.proofs.EndsLemmas.{never_rose}
use Rattle.std.proofs.Common.{refl}
use Rattle.kronos_driver.proofs.without_faults.exit_without_faults.Goals as goal

pub returns-clause-script : goal.returns-clause-script
returns-clause-script g c = λ form fits script parses.
    c.kronos_script.ensures.complete (record { form = form; bytes = c.args.source.now; script = script; told = refl; fits = fits; parses = parses; read = never_rose; written = never_rose })

pub returns-clause-load : goal.returns-clause-load
returns-clause-load g c = λ rounds form.
    c.kronos_script.ensures.complete_load (record { rounds = rounds; form = form; written = never_rose })

pub returns-clause-log : goal.returns-clause-log
returns-clause-log g c = λ form fits due ends.
    c.kronos_script.ensures.complete_import
    (record { form = form; bytes = c.args.source.now; told = refl; fits = fits; read = never_rose; written = never_rose }) due ends
