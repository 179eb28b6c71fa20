use Rattle.script_lang.proofs.KindLemmas.{no_acquire}
use Rattle.script_lang.proofs.events.acquire_of.Goals as goal

pub returns-in_err-client : goal.returns-in_err-client
returns-in_err-client c = rw c.from_residual.ensures (no_acquire c.args.words.now c.in_err-client.ensures)
