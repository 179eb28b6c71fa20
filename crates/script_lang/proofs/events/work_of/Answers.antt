use Rattle.script_lang.proofs.KindLemmas.{no_work}
use Rattle.script_lang.proofs.events.work_of.Goals as goal

pub returns-in_err-server : goal.returns-in_err-server
returns-in_err-server c = rw c.from_residual.ensures (no_work c.args.words.now c.in_err-server.ensures)
