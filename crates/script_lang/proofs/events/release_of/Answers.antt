use Rattle.script_lang.proofs.KindLemmas.{no_release}
use Rattle.script_lang.proofs.events.release_of.Goals as goal

pub returns-in_err-client : goal.returns-in_err-client
returns-in_err-client c = rw c.from_residual.ensures (no_release c.args.words.now c.in_err-client.ensures)
