use Rattle.kr_protocol.proofs.EvolveLemmas.{first_rises}
use Rattle.kr_protocol.proofs.laws.the_first_view_rises.Goals as goal

pub returns : goal.returns
returns c = first_rises
