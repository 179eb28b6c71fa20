use Rattle.std.proofs.Common.{length}
use Rattle.script_lang.proofs.LiveLineLemmas.{IsReadLive}
use Rattle.script_lang.proofs.live.read_live.Given as goal

abbrev pub invariant-loop-rest : goal.invariant-loop-rest
invariant-loop-rest l = IsReadLive l.fn.bytes l.clients l.calls l.rest

abbrev pub decreases-loop-rest : goal.decreases-loop-rest
decreases-loop-rest l = length l.rest
