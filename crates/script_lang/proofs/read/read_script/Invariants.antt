use Rattle.std.proofs.Common.{length}
use Rattle.script_lang.proofs.ScriptLemmas.{IsRead}
use Rattle.script_lang.proofs.read.read_script.Given as goal

abbrev pub invariant-loop-rest : goal.invariant-loop-rest
invariant-loop-rest l = IsRead l.fn.bytes l.servers l.clients l.events l.rest

abbrev pub decreases-loop-rest : goal.decreases-loop-rest
decreases-loop-rest l = length l.rest
