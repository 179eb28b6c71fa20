use Rattle.script_lang.proofs.LiveSpellings.{read_as_printed}
use Rattle.script_lang.proofs.laws.plans_are_read_as_printed.Goals as goal

pub returns : goal.returns
returns c = read_as_printed
