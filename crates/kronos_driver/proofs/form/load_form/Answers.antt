use Rattle.std.proofs.Common.{◌≡◌}
use Rattle.std.specs.Fmt.{decimal}
use Rattle.std.specs.Rc.{rc_str_bytes}
use Rattle.kronos_driver.proofs.FormLemmas.{no_rounds}
use Rattle.kronos_driver.proofs.form.load_form.Goals as goal

pub returns-in-Some-eq0-clause-none : goal.returns-in-Some-eq0-clause-none
returns-in-Some-eq0-clause-none c =
    let spelt = c.in-Some-eq0.ensures.some.1 in
    let number : rc_str_bytes c.args.number.now ≡ decimal 0 = cc in
    no_rounds (rc_str_bytes c.args.word.now) (rc_str_bytes c.args.number.now) number
